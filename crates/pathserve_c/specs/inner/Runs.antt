-- Rows and columns of a grid of masks that were turned into rectangles.
use Rattle.std.specs.Prelude.{ℕ, ◌==◌, Bool, ◌&&◌, nat_lt, List, slice_index}
use Rattle.nav_types.specs.declared.cells.Cell.{Cell}
use Rattle.nav_types.specs.declared.cells.Size.{Size}
use Rattle.lane_rows.specs.Rows.{has_class}
use Rattle.pathserve_c.specs.Grids.{is_masked}

-- the cell is one of the first of a row, and its mask there has bit k
abbrev pub is_in_row : (j columns : ℕ) → List ℕ → ℕ → Cell → Bool
is_in_row j columns row k cell = cell.j == j && (nat_lt cell.i columns && has_class k (slice_index row cell.i))

-- the cell is in one of the first rows of the map, and its mask has bit k
abbrev pub is_in_rows : (rows : ℕ) → Size → List ℕ → ℕ → Cell → Bool
is_in_rows rows size masks k cell = nat_lt cell.j rows && (nat_lt cell.i size.w && is_masked size masks k cell)
