use Rattle.std.proofs.Common.{◌≡◌, ◌-◌, ◌<◌, ◌≤◌, ◌⊎◌}
use Rattle.std.specs.Prelude.{bit_or}
use Rattle.nav_types.specs.declared.cells.Cell.{Cell}
use Rattle.nav_types.specs.Cells.{cell_at, IsInside}
use Rattle.navcell_grid.specs.Grids.{number_at}
use Rattle.grid_versions.proofs.base_grids.spread.Given as goal

-- the rows from row j on are done, and the others are as before
abbrev pub invariant-north : goal.invariant-north
invariant-north l = record {
  extent : l.grid.size ≡ l.fn.grid.size;
  top : l.j ≤ l.fn.grid.size.h;
  done : (cell : Cell) → IsInside l.fn.grid.size cell → l.j ≤ cell.j → l.step ≤ cell.j
      → number_at l.grid cell ≡ bit_or (number_at l.fn.grid cell) (number_at l.fn.grid (cell_at cell.i (cell.j - l.step)));
  others : (cell : Cell) → IsInside l.fn.grid.size cell → (cell.j < l.j) ⊎ (cell.j < l.step)
      → number_at l.grid cell ≡ number_at l.fn.grid cell;
}

abbrev pub decreases-north : goal.decreases-north
decreases-north l = l.j
