-- How many regions, edges and areas one class has, and which chunks differ between two maps.
use Rattle.std.specs.Prelude.{ℕ, Bool, ◌≡◌, ◌≢◌, ◌↔◌, List, length, slice_get, Some, IsTrue}
use Rattle.nav_types.specs.declared.cells.Cell.{Cell}
use Rattle.nav_types.specs.declared.cells.Chunk.{Chunk}
use Rattle.nav_types.specs.declared.cells.Size.{Size}
use Rattle.nav_types.specs.Cells.{chunk_of}
use Rattle.nav_types.specs.Counting.{Counts}
use Rattle.nav_types.specs.Regions.{IsRegionFirst, IsNextChunk, IsEdge, IsAreaFirst}
use Rattle.grid_versions.specs.Chunks.{chunk_count}
use Rattle.grid_versions.specs.inner.ChunkLists.{AreOfChunks}
use Rattle.grid_versions.specs.inner.Tables.{Tables, AreTables}

-- how many regions, region edges and areas one class has
pub record HasClassTallies (passes : Cell → Bool) (regions edges areas : ℕ) : Type 0 where
  pub region_count : Counts (IsRegionFirst passes) regions
  pub edge_count : Counts (λ (e : Chunk × Chunk × ℕ × ℕ). IsNextChunk e.0 e.1 × IsEdge passes e.0 e.1 e.2 e.3) edges
  pub area_count : Counts (IsAreaFirst passes) areas

-- the tables of each class of a map, in the order of classes
pub record AreTablesOf (classes : ℕ) (passes : ℕ → Cell → Bool) (size : Size) (all : List Tables) : Type 0 where
  pub each : length all ≡ classes
  pub are : (class : ℕ) (tables : Tables) → slice_get all class ≡ Some tables → AreTables (passes class) size tables

-- some cell of the chunk is passable before and not now, or now and not before
abbrev pub Differs : (Cell → Bool) → (Cell → Bool) → Chunk → Type 0
Differs before now chunk = (cell : Cell) × ((chunk_of cell ≡ chunk) × (before cell ≢ now cell))

-- one mark a chunk, in the order chunk row, chunk column: true exactly where the chunk differs
abbrev pub AreMarks : (Cell → Bool) → (Cell → Bool) → Size → List Bool → Type 0
AreMarks before now size marks =
    AreOfChunks size (chunk_count size) (λ chunk mark. IsTrue mark ↔ Differs before now chunk) marks

-- the marks of each class, in the order of classes
pub record AreMarksOf (classes : ℕ) (before now : ℕ → Cell → Bool) (size : Size) (all : List (List Bool)) : Type 0 where
  pub each : length all ≡ classes
  pub are : (class : ℕ) (marks : List Bool) → slice_get all class ≡ Some marks
      → AreMarks (before class) (now class) size marks
