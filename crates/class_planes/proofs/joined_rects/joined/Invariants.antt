use Rattle.std.proofs.Common.{ℕ, ◌<◌, get_or}
use Rattle.std.specs.Prelude.{All}
use Rattle.nav_types.specs.declared.cells.Cell.{Cell}
use Rattle.nav_types.specs.declared.cells.Rect.{Rect}
use Rattle.nav_types.specs.Cells.{IsInRect}
use Rattle.class_planes.specs.Planes.{IsOutside}
use Rattle.class_planes.specs.inner.StopLines.{IsRectOf}
use Rattle.class_planes.proofs.joined_rects.joined.Given as goal

-- a cell outside of those so far lies outside of the first of the rectangles
abbrev pub invariant-loop-rect : goal.invariant-loop-rect
invariant-loop-rect l = record {
  inside : (count words : ℕ) → All (IsRectOf count words) l.fn.rects.items
      → All (IsRectOf count words) l.fewer.items × IsRectOf count words l.last;
  outside : (cell : Cell) → IsOutside l.fewer.items cell → ¬ IsInRect l.last cell
      → (k : ℕ) (d : Rect) → k < l.rect-index → ¬ IsInRect (get_or l.fn.rects.items k d) cell;
}
