-- The rectangles so far and those of what is left are those of all items.
use Rattle.std.proofs.Common.{◌≡◌, ◌++◌, All, drop, map, option_map}
use Rattle.nav_types.specs.Cells.{IsRectInside}
use Rattle.serde_json.specs.View.{view}
use Rattle.script_text.specs.Forms.{each, entry_of}
use Rattle.script_text.proofs.forms.bases.entries_of.Given as goal

abbrev pub invariant-loop-item : goal.invariant-loop-item
invariant-loop-item l = record {
  rects : option_map (λ rest. l.rects ++ rest) (each (entry_of l.size) (map view (drop l.item-index l.items))) ≡ each (entry_of l.size) (map view l.items);
  inside : All (λ entry. IsRectInside l.size entry.0) l.rects;
}
