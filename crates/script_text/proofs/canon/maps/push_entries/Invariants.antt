-- The text so far, and that of the rectangles that are left, are the text of the whole array after what stood before.
use Rattle.std.proofs.Common.{◌≡◌, ◌++◌, drop, map}
use Rattle.serde_json.specs.View.{items_of}
use Rattle.serde_json.specs.Written.{compact_text, items_text}
use Rattle.script_text.specs.Canon.{list_json, entry_json}
use Rattle.std.specs.Prelude.{ℕ, ◌≤◌}
use Rattle.nav_types.specs.declared.cells.Rect.{Rect}
use Rattle.std.specs.List.{AllWithin}
use Rattle.script_text.proofs.canon.maps.push_entries.Given as goal

abbrev pub invariant-loop-entry : goal.invariant-loop-entry
invariant-loop-entry l = (l.text ++ items_text l.later (items_of (map entry_json (drop l.entry-index l.rects))) ≡ l.fn.text ++ compact_text (list_json (map entry_json l.fn.rects))) × AllWithin (λ (entry : Rect × ℕ). entry.1 ≤ 65535) l.rects 0 l.entry-index
