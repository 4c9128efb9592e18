-- Lists that have one item for each chunk of a map, and the neighbours of a chunk.
use Rattle.std.specs.Prelude.{ℕ, ◌≡◌, ◌+◌, ◌*◌, ◌/◌, ◌%◌, ◌<◌, List, length, slice_get, slice_set, Some}
use Rattle.nav_types.specs.declared.limits.TheConstants.{CHUNK_SIDE}
use Rattle.nav_types.specs.declared.cells.Chunk.{Chunk}
use Rattle.nav_types.specs.declared.cells.Size.{Size}
use Rattle.nav_types.specs.Cells.{chunk_at}
use Rattle.region_edges.specs.declared.neighbours.ChunkSide.{ChunkSide}
use Rattle.region_edges.specs.declared.neighbours.ChunkSide.TheVariants.{East, North}
use Rattle.grid_versions.specs.Chunks.{chunk_columns}

-- the chunk at a place
abbrev pub chunk_numbered : Size → ℕ → Chunk
chunk_numbered size place = chunk_at (place % chunk_columns size) (place / chunk_columns size)

-- the chunk has a cell in a map of this size
pub record IsChunkInside (size : Size) (chunk : Chunk) : Type 0 where
  pub column : CHUNK_SIDE * chunk.ci < size.w
  pub row : CHUNK_SIDE * chunk.cj < size.h

-- the chunk one column further east
abbrev pub east_of : Chunk → Chunk
east_of chunk = chunk_at (chunk.ci + 1) chunk.cj

-- the chunk one row further north
abbrev pub north_of : Chunk → Chunk
north_of chunk = chunk_at chunk.ci (chunk.cj + 1)

-- the neighbour on that side, which may lie outside the map
abbrev pub neighbour_on : ChunkSide → Chunk → Chunk
neighbour_on East chunk = east_of chunk
neighbour_on North chunk = north_of chunk

-- the items are those of the first `count` chunks of a map of this size, one for each, in order
pub record AreOfChunks {A : Type 0} (size : Size) (count : ℕ) (Is : Chunk → A → Type 0) (items : List A) : Type 0 where
  pub each : length items ≡ count
  pub are : (place : ℕ) (item : A) → slice_get items place ≡ Some item → Is (chunk_numbered size place) item

-- the list after is that of before, but for an item at the place, which is as said
pub record IsRemadeAt {A : Type 0} (place : ℕ) (Is : A → Type 0) (before after : List A) : Type 0 where
  pub item : A
  pub set : after ≡ slice_set before place item
  pub is : Is item
