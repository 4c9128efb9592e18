use Rattle.std.proofs.Common.{◌-◌, ◌≡◌, ◌≤◌, ℕ, All}
use Rattle.nav_types.specs.declared.cells.Cell.{Cell}
use Rattle.nav_types.specs.declared.cells.Rect.{Rect}
use Rattle.nav_types.specs.Cells.{IsRectInside}
use Rattle.grid_versions.specs.Passing.{is_listed}
use Rattle.pathserve_c.specs.inner.Runs.{is_in_rows}
use Rattle.pathserve_c.proofs.grids.rects_of_masks.Given as goal

abbrev pub invariant-rows : goal.invariant-rows
invariant-rows l = All (λ (entry : Rect × ℕ). IsRectInside l.size entry.0) l.rects × (l.j ≤ l.size.h)
    × ((k : ℕ) (cell : Cell) → is_listed l.rects k cell ≡ is_in_rows l.j l.size l.masks k cell)

abbrev pub decreases-rows : goal.decreases-rows
decreases-rows l = l.size.h - l.j
