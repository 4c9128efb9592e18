-- The region edges of two neighbouring chunks.
use Rattle.std.specs.Prelude.{ℕ, Bool, ◌≡◌, ◌+◌, ◌*◌, ◌<◌, ◌⊎◌, List, IsTrue, AllPairs, Contains}
use Rattle.nav_types.specs.declared.limits.TheConstants.{CHUNK_SIDE}
use Rattle.nav_types.specs.declared.cells.Cell.{Cell}
use Rattle.nav_types.specs.declared.cells.Chunk.{Chunk}
use Rattle.nav_types.specs.declared.cells.Size.{Size}
use Rattle.nav_types.specs.Cells.{IsInside}
use Rattle.nav_types.specs.Rects.{chunk_rect}
use Rattle.nav_types.specs.Regions.{IsEdge}
use Rattle.chunk_regions.specs.Labelling.{Labelling}
use Rattle.region_edges.specs.declared.neighbours.ChunkSide.{ChunkSide}
use Rattle.region_edges.specs.declared.neighbours.ChunkSide.TheVariants.{East, North}

-- the chunk there is the neighbour of the chunk here on that side
abbrev pub LiesOn : ChunkSide → Chunk → Chunk → Type 0
LiesOn East here there = (there.ci ≡ here.ci + 1) × (there.cj ≡ here.cj)
LiesOn North here there = (there.ci ≡ here.ci) × (there.cj ≡ here.cj + 1)

-- the labels are of two chunks of one map, and the chunk there is the neighbour on that side: each has cells in the map
pub record AreNeighbours (side : ChunkSide) (here there : Labelling) : Type 0 where
  pub size : Size
  pub lies : LiesOn side here.chunk there.chunk
  pub columns : CHUNK_SIDE * there.chunk.ci < size.w
  pub rows : CHUNK_SIDE * there.chunk.cj < size.h
  pub here_extent : here.cells.rect ≡ chunk_rect size here.chunk
  pub there_extent : there.cells.rect ≡ chunk_rect size there.chunk

-- each passable cell lies in a map of this size
abbrev pub PassesInside : (Cell → Bool) → Size → Type 0
PassesInside passes size = (cell : Cell) → IsTrue (passes cell) → IsInside size cell

-- the order of pairs of regions: by the region here, then by the region there
abbrev pub IsPairBefore : ℕ × ℕ → ℕ × ℕ → Type 0
IsPairBefore a b = (a.0 < b.0) ⊎ ((a.0 ≡ b.0) × (a.1 < b.1))

-- exactly the pairs (region here, region there) that have an edge, each once and in order
pub record AreEdges (passes : Cell → Bool) (here there : Chunk) (edges : List (ℕ × ℕ)) : Type 0 where
  pub each : (near far : ℕ) → Contains edges (near, far) → IsEdge passes here there near far
  pub all : (near far : ℕ) → IsEdge passes here there near far → Contains edges (near, far)
  pub rising : AllPairs IsPairBefore edges
