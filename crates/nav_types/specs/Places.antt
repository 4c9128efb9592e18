-- The places of a map's cells in a list of all of them, row by row.
use Rattle.std.specs.Prelude.{ℕ, ◌+◌, ◌*◌, ◌/◌, ◌%◌}
use Rattle.nav_types.specs.declared.cells.Cell.{Cell}
use Rattle.nav_types.specs.declared.cells.Size.{Size}
use Rattle.nav_types.specs.Cells.{cell_at}

-- how many cells of the map come before the cell
abbrev pub place_of : Size → Cell → ℕ
place_of size cell = cell.j * size.w + cell.i

-- the cell that has this many cells of the map before it
abbrev pub cell_of : Size → ℕ → Cell
cell_of size place = cell_at (place % size.w) (place / size.w)
