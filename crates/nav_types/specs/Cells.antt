-- Where cells lie: in a map, in a rectangle, in a chunk, before another cell.
use Rattle.std.specs.Prelude.{ℕ, ◌<◌, ◌≤◌, ◌/◌, ◌≡◌, ◌⊎◌}
use Rattle.nav_types.specs.declared.limits.TheConstants.{CHUNK_SIDE}
use Rattle.nav_types.specs.declared.cells.Cell.{Cell}
use Rattle.nav_types.specs.declared.cells.Chunk.{Chunk}
use Rattle.nav_types.specs.declared.cells.Rect.{Rect}
use Rattle.nav_types.specs.declared.cells.Size.{Size}

-- the cell of column i and row j
abbrev pub cell_at : ℕ → ℕ → Cell
cell_at i j = record { j = j; i = i }

-- the cell lies in a map of this size
pub record IsInside (size : Size) (cell : Cell) : Type 0 where
  pub column : cell.i < size.w
  pub row : cell.j < size.h

-- the cell lies in the rectangle, both ends inclusive
pub record IsInRect (rect : Rect) (cell : Cell) : Type 0 where
  pub west : rect.i0 ≤ cell.i
  pub east : cell.i ≤ rect.i1
  pub south : rect.j0 ≤ cell.j
  pub north : cell.j ≤ rect.j1

-- the rectangle has a cell, and all its cells lie in a map of this size
pub record IsRectInside (size : Size) (rect : Rect) : Type 0 where
  pub columns : rect.i0 ≤ rect.i1
  pub rows : rect.j0 ≤ rect.j1
  pub last_column : rect.i1 < size.w
  pub last_row : rect.j1 < size.h

-- the chunk of chunk column ci and chunk row cj
abbrev pub chunk_at : ℕ → ℕ → Chunk
chunk_at ci cj = record { cj = cj; ci = ci }

-- the chunk that holds the cell
abbrev pub chunk_of : Cell → Chunk
chunk_of cell = chunk_at (cell.i / CHUNK_SIDE) (cell.j / CHUNK_SIDE)

-- the order of cells: by row, then by column
abbrev pub IsBefore : Cell → Cell → Type 0
IsBefore a b = (a.j < b.j) ⊎ ((a.j ≡ b.j) × (a.i < b.i))

-- a is b or comes before b
abbrev pub IsNotAfter : Cell → Cell → Type 0
IsNotAfter a b = (a.j < b.j) ⊎ ((a.j ≡ b.j) × (a.i ≤ b.i))

-- the order of chunks: by row, then by column
abbrev pub IsChunkBefore : Chunk → Chunk → Type 0
IsChunkBefore a b = (a.cj < b.cj) ⊎ ((a.cj ≡ b.cj) × (a.ci < b.ci))
