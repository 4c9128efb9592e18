-- A grid: the size of a map, and one number of 16 bits for each of its navcells. Bit k of a number is
-- set where the navcell is impassable for the passability class k.
use Rattle.std.specs.Prelude.{ℕ, ◌≡◌, ◌≤◌, ◌*◌, Bool, ◌&&◌, not, nat_lt, List, length, slice_index}
use Rattle.nav_types.specs.declared.cells.Cell.{Cell}
use Rattle.nav_types.specs.declared.cells.Size.{Size}
use Rattle.nav_types.specs.Places.{place_of}
use Rattle.lane_rows.specs.Rows.{has_class}

-- the size in navcells, and the numbers of the cells by row, then by column
pub record GridCells : Type 0 where
  pub size : Size
  pub cells : List ℕ

-- the grid has exactly one number for each cell of its size
abbrev pub IsWholeGrid : GridCells → Type 0
IsWholeGrid grid = length grid.cells ≡ grid.size.w * grid.size.h

-- the number of a cell
abbrev pub number_at : GridCells → Cell → ℕ
number_at grid cell = slice_index grid.cells (place_of grid.size cell)

-- the cell lies in row j, between the columns i0 and i1 inclusive
pub record IsInSpan (j i0 i1 : ℕ) (cell : Cell) : Type 0 where
  pub row : cell.j ≡ j
  pub west : i0 ≤ cell.i
  pub east : cell.i ≤ i1

-- the cell lies in the map, and the bit of the class is clear in its number
abbrev pub is_free_for : GridCells → ℕ → Cell → Bool
is_free_for grid class cell = nat_lt cell.i grid.size.w && nat_lt cell.j grid.size.h && not (has_class class (number_at grid cell))
