-- A patch as a grid of its own, whose first cell is the rectangle's.
use Rattle.std.specs.Prelude.{◌≡◌}
use Rattle.nav_types.specs.declared.cells.Rect.{Rect}
use Rattle.nav_types.specs.Numbering.{IsPatch, columns, rows}
use Rattle.navcell_grid.specs.Grids.{GridCells}

-- the rectangle is no larger than a chunk, and the grid has one cell for each of its cells
pub record IsFramed (rect : Rect) (grid : GridCells) : Type 0 where
  pub extent : IsPatch rect
  pub wide : grid.size.w ≡ columns rect
  pub high : grid.size.h ≡ rows rect
