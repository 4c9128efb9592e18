-- The numbers of a map's cells: bit k is set where the cell is impassable for class k.
use Rattle.std.specs.Prelude.{ℕ, ◌≡◌, ◌↔◌, ◌*◌, Bool, ◌||◌, List, length, slice_get, Some}
use Rattle.std.specs.Int.{bit_at}
use Rattle.nav_types.specs.declared.cells.Cell.{Cell}
use Rattle.nav_types.specs.declared.cells.Chunk.{Chunk}
use Rattle.nav_types.specs.Cells.{IsInRect}
use Rattle.nav_types.specs.Numbering.{Numbering, columns, rows, number_of}
use Rattle.lane_rows.specs.Rows.{has_class}
use Rattle.navcell_grid.specs.Patches.{DiffersIn}
use Rattle.nav_types.specs.Rects.{chunk_rect}
use Rattle.obstruction_store.specs.Standing.{Standing}
use Rattle.posts.specs.Maps.{Map}
use Rattle.grid_versions.specs.Passing.{has_base, is_blocked}
use Rattle.grid_versions.specs.Chunks.{chunk_count}
use Rattle.grid_versions.specs.inner.ChunkLists.{AreOfChunks}

-- a base rectangle or a standing obstruction makes the cell impassable for class k
abbrev pub is_covered : Map → Standing → ℕ → Cell → Bool
is_covered map standing k cell = has_base map k cell || is_blocked map standing k cell

-- the numbers are those of the chunk's cells, and their bits say which cells a base rectangle covers
pub record IsBaseChunk (map : Map) (chunk : Chunk) (cells : Numbering) : Type 0 where
  pub extent : cells.rect ≡ chunk_rect map.size chunk
  pub whole : length cells.numbers ≡ columns cells.rect * rows cells.rect
  pub bits : (k : ℕ) (cell : Cell) → IsInRect cells.rect cell
      → has_class k (number_of cells cell) ≡ has_base map k cell

-- the numbers of all chunks under the base rectangles alone
abbrev pub AreBaseChunks : Map → List Numbering → Type 0
AreBaseChunks map all = AreOfChunks map.size (chunk_count map.size) (IsBaseChunk map) all

-- the numbers are those of the chunk's cells, and their bits say which cells are covered
pub record IsPaintedChunk (map : Map) (standing : Standing) (chunk : Chunk) (cells : Numbering) : Type 0 where
  pub extent : cells.rect ≡ chunk_rect map.size chunk
  pub whole : length cells.numbers ≡ columns cells.rect * rows cells.rect
  pub bits : (k : ℕ) (cell : Cell) → IsInRect cells.rect cell
      → has_class k (number_of cells cell) ≡ is_covered map standing k cell

-- the numbers of all chunks
abbrev pub ArePaintedChunks : Map → Standing → List Numbering → Type 0
ArePaintedChunks map standing all = AreOfChunks map.size (chunk_count map.size) (IsPaintedChunk map standing) all

-- one number a place, whose bit k is set exactly where bit k differs in some cell there
pub record AreDiffering (before now : List Numbering) (bits : List ℕ) : Type 0 where
  pub each : length bits ≡ length now
  pub are : (place : ℕ) (a b : Numbering) (set : ℕ) → slice_get before place ≡ Some a → slice_get now place ≡ Some b
      → slice_get bits place ≡ Some set → (k : ℕ) → (bit_at set k ≡ 1) ↔ DiffersIn k b.rect a b
