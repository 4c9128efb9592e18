-- The parts of the chunks that edits reach.
use Rattle.std.specs.Prelude.{ℕ, ◌≡◌, ◌<◌, ◌⊎◌, List, None, Some, Contains}
use Rattle.nav_types.specs.declared.cells.Cell.{Cell}
use Rattle.nav_types.specs.declared.cells.Rect.{Rect}
use Rattle.nav_types.specs.declared.cells.Size.{Size}
use Rattle.nav_types.specs.Cells.{IsInRect}
use Rattle.nav_types.specs.Rects.{chunk_rect}
use Rattle.grid_versions.specs.declared.dirty_parts.DirtyPart.{DirtyPart}
use Rattle.grid_versions.specs.Chunks.{chunk_count}
use Rattle.grid_versions.specs.inner.ChunkLists.{chunk_numbered}
use Rattle.grid_versions.specs.inner.Reaching.{HoldsReached}

-- no cell of the chunk at the place lies in the rectangle
abbrev pub Misses : Size → Rect → ℕ → Type 0
Misses size rect place = (cell : Cell) → IsInRect (chunk_rect size (chunk_numbered size place)) cell → IsInRect rect cell → ⊥

-- no cell of the chunk at the place lies in one of the rectangles
abbrev pub IsUnreached : Size → List Rect → ℕ → Type 0
IsUnreached size rects place = HoldsReached rects (chunk_rect size (chunk_numbered size place)) None

-- the places are of chunks, and have that of each chunk of which a cell lies in one of the rectangles
pub record AreReachedPlaces (size : Size) (rects : List Rect) (places : List ℕ) : Type 0 where
  pub within : (place : ℕ) → Contains places place → place < chunk_count size
  pub all : (place : ℕ) → place < chunk_count size → Contains places place ⊎ IsUnreached size rects place

-- the part is of a chunk, and holds each cell of it that lies in one of the rectangles
pub record IsReachedPart (size : Size) (rects : List Rect) (part : DirtyPart) : Type 0 where
  pub within : part.place < chunk_count size
  pub holds : HoldsReached rects (chunk_rect size (chunk_numbered size part.place)) (Some part.rect)

-- one of the parts is of the chunk at the place
pub record HasPart (parts : List DirtyPart) (place : ℕ) : Type 0 where
  pub part : DirtyPart
  pub listed : Contains parts part
  pub of : part.place ≡ place

-- each of the parts holds what lies in one of the rectangles of its chunk, and of the other chunks nothing does
pub record AreReachedParts (size : Size) (rects : List Rect) (parts : List DirtyPart) : Type 0 where
  pub each : (part : DirtyPart) → Contains parts part → IsReachedPart size rects part
  pub all : (place : ℕ) → place < chunk_count size → HasPart parts place ⊎ IsUnreached size rects place
