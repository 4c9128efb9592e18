-- Numbers of the cells of a rectangle of navcells.
use Rattle.std.specs.Prelude.{ℕ, ◌+◌, ◌-◌, ◌*◌, ◌≤◌, ◌<◌, List, slice_index}
use Rattle.nav_types.specs.declared.limits.TheConstants.{CHUNK_SIDE, MAX_SIDE}
use Rattle.nav_types.specs.declared.cells.Cell.{Cell}
use Rattle.nav_types.specs.declared.cells.Rect.{Rect}

-- a rectangle of cells, and a number for each of them in the order of cells: by row, then by column
pub record Numbering : Type 0 where
  pub rect : Rect
  pub numbers : List ℕ

-- how many columns of cells the rectangle has
abbrev pub columns : Rect → ℕ
columns rect = rect.i1 - rect.i0 + 1

-- how many rows of cells the rectangle has
abbrev pub rows : Rect → ℕ
rows rect = rect.j1 - rect.j0 + 1

-- the place of a cell among the rectangle's cells, in the order of cells, from 0
unfoldable pub place_in : Rect → Cell → ℕ
place_in rect cell = (cell.j - rect.j0) * columns rect + (cell.i - rect.i0)

-- the number of a cell of the rectangle
unfoldable pub number_of : Numbering → Cell → ℕ
number_of cells cell = slice_index cells.numbers (place_in cells.rect cell)

-- a rectangle of a cell or more that is no wider and no higher than a chunk, as those of a map's chunks are
pub record IsPatch (rect : Rect) : Type 0 where
  pub columns : rect.i0 ≤ rect.i1
  pub rows : rect.j0 ≤ rect.j1
  pub wide : rect.i1 < rect.i0 + CHUNK_SIDE
  pub high : rect.j1 < rect.j0 + CHUNK_SIDE
  pub east : rect.i1 < MAX_SIDE
  pub north : rect.j1 < MAX_SIDE
