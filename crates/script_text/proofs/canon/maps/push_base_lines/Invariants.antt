-- The lines so far, and those of the rectangles that are left, are all lines after what stood before.
use Rattle.std.proofs.Common.{◌≡◌, ◌++◌, length}
use Rattle.script_text.specs.Canon.{canon_base}
use Rattle.std.specs.Prelude.{ℕ, ◌≤◌, All}
use Rattle.nav_types.specs.declared.cells.Rect.{Rect}
use Rattle.script_text.proofs.canon.maps.push_base_lines.Given as goal

abbrev pub invariant-loop-rest : goal.invariant-loop-rest
invariant-loop-rest l = (l.text ++ canon_base l.rest ≡ l.fn.text ++ canon_base l.fn.rects) × (All (λ (entry : Rect × ℕ). entry.1 ≤ 65535) l.rest → All (λ (entry : Rect × ℕ). entry.1 ≤ 65535) l.fn.rects)

abbrev pub decreases-loop-rest : goal.decreases-loop-rest
decreases-loop-rest l = length l.rest
