-- Tables on their way: what holds before the areas are made.
use Rattle.std.specs.Prelude.{ℕ, Bool, ◌≡◌, List, Some, Contains, slice_get}
use Rattle.nav_types.specs.declared.cells.Cell.{Cell}
use Rattle.nav_types.specs.declared.cells.Size.{Size}
use Rattle.chunk_regions.specs.Labelling.{Labelling}
use Rattle.nav_types.specs.Rects.{chunk_rect}
use Rattle.region_edges.specs.declared.neighbours.ChunkSide.{ChunkSide}
use Rattle.region_edges.specs.declared.neighbours.ChunkSide.TheVariants.{East, North}
use Rattle.region_edges.specs.Edges.{PassesInside}
use Rattle.reach_sets.specs.declared.regions.RegionId.{RegionId}
use Rattle.grid_versions.specs.Chunks.{chunk_count, chunk_place}
use Rattle.grid_versions.specs.inner.ChunkLists.{chunk_numbered, neighbour_on, AreOfChunks}
use Rattle.grid_versions.specs.inner.Tables.{AreAllLabels, AreAllEdges}

-- each chunk of the map has labels of its own cells
abbrev pub IsLaidOut : Size → List Labelling → Type 0
IsLaidOut size all =
    AreOfChunks size (chunk_count size) (λ chunk labels. (labels.chunk ≡ chunk) × (labels.cells.rect ≡ chunk_rect size chunk))
    all

-- an edge between the chunks at two places, as a link
abbrev pub link_between : ℕ → ℕ → ℕ × ℕ → RegionId × RegionId
link_between here there edge = (record { chunk = here; region = edge.0 }, record { chunk = there; region = edge.1 })

-- the link is one of the listed edges on that side
pub record IsSideLink (size : Size) (side : ChunkSide) (all : List (List (ℕ × ℕ))) (link : RegionId × RegionId) : Type 0 where
  pub edges : List (ℕ × ℕ)
  pub at : slice_get all link.0.chunk ≡ Some edges
  pub listed : Contains edges (link.0.region, link.1.region)
  pub to : link.1.chunk ≡ chunk_place size (neighbour_on side (chunk_numbered size link.0.chunk))

-- the labels and the edges on both sides are those of a class in a map of this size
pub record AreSides (passes : Cell → Bool) (size : Size) (labels : List Labelling) (east north : List (List (ℕ × ℕ))) : Type 0 where
  pub inside : PassesInside passes size
  pub labels_are : AreAllLabels passes size labels
  pub east_are : AreAllEdges East passes size east
  pub north_are : AreAllEdges North passes size north
