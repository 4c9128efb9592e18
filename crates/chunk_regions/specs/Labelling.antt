-- The regions of one chunk and class.
use Rattle.std.specs.Prelude.{ℕ, Bool, ◌≡◌, ◌+◌, ◌*◌, ◌<◌, ◌≤◌, ◌==◌, ◌⊎◌, List, IsTrue, slice_index}
use Rattle.std.specs.Int.{bit_at}
use Rattle.nav_types.specs.declared.limits.TheConstants.{CHUNK_SIDE}
use Rattle.nav_types.specs.declared.cells.Cell.{Cell}
use Rattle.nav_types.specs.declared.cells.Chunk.{Chunk}
use Rattle.nav_types.specs.declared.cells.Size.{Size}
use Rattle.nav_types.specs.Cells.{cell_at, IsBefore, IsInside, IsInRect}
use Rattle.nav_types.specs.Counting.{AreFirsts}
use Rattle.nav_types.specs.Regions.{passes_in, InOneRegion, HasRegion}
use Rattle.nav_types.specs.Rects.{chunk_rect}
use Rattle.nav_types.specs.Numbering.{Numbering, number_of}

-- a chunk, the region numbers of its cells in the map, the first cells of its regions in order, and whether no cell past
-- the map's rim was among the passable ones, as far as is known
pub record Labelling : Type 0 where
  pub chunk : Chunk
  pub cells : Numbering
  pub firsts : List Cell
  pub within : Bool

-- the labels are those of the chunk in a map of this size, where `passes` says which cells are passable for the class
pub record AreLabels (passes : Cell → Bool) (size : Size) (chunk : Chunk) (labels : Labelling) : Type 0 where
  pub of_chunk : labels.chunk ≡ chunk
  pub extent : labels.cells.rect ≡ chunk_rect size chunk
  pub numbers : (cell : Cell) → IsInRect labels.cells.rect cell
      → HasRegion passes chunk cell (number_of labels.cells cell)
  pub first_cells : AreFirsts (passes_in passes chunk) (InOneRegion passes chunk) IsBefore labels.firsts

-- the numbers of a chunk's rows have a bit for each of its columns, which is set exactly where the cell is passable
pub record AreBitsOf (passes : Cell → Bool) (chunk : Chunk) (bits : List ℕ) : Type 0 where
  pub set : (row column : ℕ) → row < CHUNK_SIDE → column < CHUNK_SIDE
      → (bit_at (slice_index bits row) column == 1) ≡ passes (cell_at (CHUNK_SIDE * chunk.ci + column) (CHUNK_SIDE * chunk.cj + row))

-- the cell in a row and a column of a chunk
abbrev pub cell_of : Chunk → ℕ → ℕ → Cell
cell_of chunk row column = cell_at (CHUNK_SIDE * chunk.ci + column) (CHUNK_SIDE * chunk.cj + row)

-- as `AreBitsOf`, for the chunk's rows from one to before another
pub record AreRowBits (passes : Cell → Bool) (chunk : Chunk) (from to : ℕ) (bits : List ℕ) : Type 0 where
  pub set : (row column : ℕ) → from ≤ row → row < to → column < CHUNK_SIDE
      → (bit_at (slice_index bits row) column == 1) ≡ passes (cell_of chunk row column)

-- only cells of the map pass, and those of the chunk in the rows before one and from another on pass as before
pub record AgreeElsewhere (before now : Cell → Bool) (size : Size) (chunk : Chunk) (from to : ℕ) : Type 0 where
  pub inside : (cell : Cell) → IsTrue (now cell) → IsInside size cell
  pub agree : (row column : ℕ) → (row < from) ⊎ (to ≤ row) → row < CHUNK_SIDE → column < CHUNK_SIDE
      → before (cell_of chunk row column) ≡ now (cell_of chunk row column)
