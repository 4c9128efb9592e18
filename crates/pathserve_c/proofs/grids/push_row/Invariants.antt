use Rattle.std.proofs.Common.{◌-◌, ◌≡◌, ◌≤◌, ◌||◌, ℕ, All}
use Rattle.nav_types.specs.declared.cells.Cell.{Cell}
use Rattle.nav_types.specs.declared.cells.Rect.{Rect}
use Rattle.nav_types.specs.Cells.{IsRectInside}
use Rattle.grid_versions.specs.Passing.{is_listed}
use Rattle.pathserve_c.specs.inner.Runs.{is_in_row}
use Rattle.pathserve_c.proofs.grids.push_row.Given as goal

abbrev pub invariant-runs : goal.invariant-runs
invariant-runs l = All (λ (entry : Rect × ℕ). IsRectInside l.size entry.0) l.rects × (l.from ≤ l.size.w)
    × ((k : ℕ) (cell : Cell) → is_listed l.rects k cell ≡ (is_listed l.initial.rects k cell || is_in_row l.j l.from l.row k cell))

abbrev pub decreases-runs : goal.decreases-runs
decreases-runs l = l.size.w - l.from
