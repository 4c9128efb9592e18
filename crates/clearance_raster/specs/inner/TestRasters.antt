-- The raster of any test of classes and cells.
use Rattle.std.specs.Prelude.{ℕ, ◌≡◌, Bool, max}
use Rattle.std.specs.Int.{bit_at}
use Rattle.nav_types.specs.declared.cells.Cell.{Cell}
use Rattle.nav_types.specs.declared.cells.Rect.{Rect}
use Rattle.nav_types.specs.Cells.{IsInside, IsInRect}
use Rattle.navcell_grid.specs.Grids.{GridCells, number_at}
use Rattle.lane_rows.specs.Rows.{one_if}

-- the grid's size stays, and the bit of a class of a cell is set exactly where it was set before or the test holds for them
pub record IsRaster (test : ℕ → Cell → Bool) (old new : GridCells) : Type 0 where
  pub size : new.size ≡ old.size
  pub bits : (cell : Cell) (k : ℕ) → IsInside old.size cell → bit_at (number_at new cell) k ≡ max (bit_at (number_at old cell) k) (one_if (test k cell))

-- in a part of a rectangle of cells, the bit of a class of a cell is set exactly where it was set before or the test
-- holds for them; the numbers of all other cells stay
pub record IsRasterIn (rect part : Rect) (test : ℕ → Cell → Bool) (old new : Cell → ℕ) : Type 0 where
  pub bits : (cell : Cell) (k : ℕ) → IsInRect part cell → bit_at (new cell) k ≡ max (bit_at (old cell) k) (one_if (test k cell))
  pub others : (cell : Cell) → IsInRect rect cell → ¬ IsInRect part cell → new cell ≡ old cell
