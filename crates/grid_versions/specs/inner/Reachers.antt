-- The numbers of the obstructions that reach into each chunk.
use Rattle.std.specs.Prelude.{ℕ, ◌≡◌, ◌⊎◌, Bool, false, List, Some, Contains, IsTrue}
use Rattle.std.specs.Option.{option_map_or}
use Rattle.std.specs.FinMap as fin_map
use Rattle.nav_types.specs.declared.cells.Cell.{Cell}
use Rattle.nav_types.specs.declared.cells.Chunk.{Chunk}
use Rattle.nav_types.specs.declared.cells.Rect.{Rect}
use Rattle.nav_types.specs.Cells.{IsInside, IsInRect}
use Rattle.lane_rows.specs.Rows.{has_class}
use Rattle.nav_types.specs.Rects.{chunk_rect}
use Rattle.obstruction_shapes.specs.declared.shapes.Obstruction.{Obstruction}
use Rattle.clearance_raster.specs.Rasters.{blocks_class}
use Rattle.obstruction_store.specs.Standing.{Standing}
use Rattle.posts.specs.Maps.{Map}
use Rattle.grid_versions.specs.declared.reachers.Reacher.{Reacher}
use Rattle.grid_versions.specs.Passing.{is_blocked}
use Rattle.grid_versions.specs.Chunks.{chunk_count}
use Rattle.grid_versions.specs.inner.ChunkLists.{AreOfChunks}
use Rattle.grid_versions.specs.inner.Reaching.{LiesWithin, NameChanges}

-- an obstruction stands under the number and blocks the cell for class k
abbrev pub blocks_under : Map → Standing → ℕ → Cell → ℕ → Bool
blocks_under map standing k cell id =
    option_map_or (λ (obstruction : Obstruction). blocks_class obstruction map.classes k cell) (fin_map.get standing id)
    false

-- The list has the number of each standing obstruction that blocks some cell of the rectangle for some class. It may
-- have others.
pub record HoldReachers (map : Map) (standing : Standing) (rect : Rect) (ids : List ℕ) : Type 0 where
  pub all : (id : ℕ) (obstruction : Obstruction) → fin_map.get standing id ≡ Some obstruction → (k : ℕ) (cell : Cell)
      → IsInRect rect cell → IsTrue (blocks_class obstruction map.classes k cell) → Contains ids id

-- the same, of the cells of a chunk
abbrev pub HoldChunkReachers : Map → Standing → Chunk → List ℕ → Type 0
HoldChunkReachers map standing chunk ids = HoldReachers map standing (chunk_rect map.size chunk) ids

-- the lists of all chunks
abbrev pub AreReachers : Map → Standing → List (List ℕ) → Type 0
AreReachers map standing all = AreOfChunks map.size (chunk_count map.size) (HoldChunkReachers map standing) all

-- The list has the number of each standing obstruction that blocks a cell of the rectangle for a class whose bit the cell
-- has not. It may have others.
pub record HoldUnpainted (map : Map) (standing : Standing) (rect : Rect) (numbers : Cell → ℕ) (ids : List ℕ)
    : Type 0 where
  pub all : (id : ℕ) (obstruction : Obstruction) → fin_map.get standing id ≡ Some obstruction → (k : ℕ) (cell : Cell)
      → IsInRect rect cell → IsTrue (blocks_class obstruction map.classes k cell)
      → IsTrue (has_class k (numbers cell)) ⊎ Contains ids id

-- the numbers have each bit that an obstruction sets in the rectangle
abbrev pub HaveBlocked : Map → Standing → Rect → (Cell → ℕ) → Type 0
HaveBlocked map standing rect numbers = (k : ℕ) (cell : Cell) → IsInRect rect cell
    → IsTrue (is_blocked map standing k cell) → IsTrue (has_class k (numbers cell))

-- the lists of all chunks under some earlier obstructions, with the rectangles and the numbers of what has changed since
pub record AreReachersBefore (map : Map) (now : Standing) (all : List (List ℕ)) (rects : List Rect) (ids : List ℕ)
    : Type 0 where
  pub earlier : Standing
  pub lists : AreReachers map earlier all
  pub named : NameChanges map earlier now rects ids

-- one of the rectangles is of the number and holds the cell
pub record IsReachNoted (reachers : List Reacher) (id : ℕ) (cell : Cell) : Type 0 where
  pub reacher : Reacher
  pub listed : Contains reachers reacher
  pub of : reacher.id ≡ id
  pub holds : IsInRect reacher.rect cell

-- the rectangles of the number hold each cell of the map that its obstruction blocks for some class
abbrev pub HoldReached : Map → Standing → List Reacher → ℕ → Type 0
HoldReached map standing reachers id = (obstruction : Obstruction) → fin_map.get standing id ≡ Some obstruction
    → (k : ℕ) (cell : Cell) → IsInside map.size cell → IsTrue (blocks_class obstruction map.classes k cell)
    → IsReachNoted reachers id cell

-- the lists of all chunks under some earlier obstructions, with the rectangles and the numbers of what has changed since
pub record AreReachersSince (map : Map) (now : Standing) (all : List (List ℕ)) (rects : List Rect) (ids : List ℕ)
    (changed : List Reacher) : Type 0 where
  pub earlier : Standing
  pub lists : AreReachers map earlier all
  pub each : (id : ℕ) → (fin_map.get now id ≡ fin_map.get earlier id)
      ⊎ (HoldReached map now changed id × LiesWithin map now id rects)
  pub named : (id : ℕ) → Contains ids id → HoldReached map now changed id
