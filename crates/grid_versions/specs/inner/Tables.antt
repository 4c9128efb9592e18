-- The tables of one class of a map: regions of all chunks, region edges and areas.
use Rattle.std.specs.Prelude.{ℕ, Bool, ◌≡◌, ◌+◌, ◌*◌, ◌^◌, ◌<◌, ◌≤◌, List, Option, None, Some, Contains, length, map, sum_by, slice_get}
use Rattle.nav_types.specs.declared.limits.TheConstants.{MAX_CHUNKS, CHUNK_CELLS}
use Rattle.nav_types.specs.declared.cells.Cell.{Cell}
use Rattle.nav_types.specs.declared.cells.Chunk.{Chunk}
use Rattle.nav_types.specs.declared.cells.Size.{Size}
use Rattle.nav_types.specs.Cells.{chunk_of}
use Rattle.nav_types.specs.Regions.{IsNextChunk, IsEdge}
use Rattle.nav_types.specs.Numbering.{number_of}
use Rattle.chunk_regions.specs.Labelling.{Labelling, AreLabels}
use Rattle.region_edges.specs.declared.neighbours.ChunkSide.{ChunkSide}
use Rattle.region_edges.specs.declared.neighbours.ChunkSide.TheVariants.{East, North}
use Rattle.region_edges.specs.Edges.{AreEdges}
use Rattle.reach_sets.specs.declared.regions.RegionId.{RegionId}
use Rattle.reach_sets.specs.AreaNumbers.{AreaNumbers, AreAreas}
use Rattle.grid_versions.specs.Chunks.{chunk_count, chunk_place}
use Rattle.grid_versions.specs.inner.ChunkLists.{neighbour_on, AreOfChunks}

-- what is known of one class of a map; all lists but that of the areas have one item for each chunk
pub record Tables : Type 0 where
  -- the regions of each chunk
  pub labels : List Labelling
  -- the region edges of each chunk to its east neighbour; none where the map has no such neighbour
  pub east : List (List (ℕ × ℕ))
  -- the region edges of each chunk to its north neighbour; none where the map has no such neighbour
  pub north : List (List (ℕ × ℕ))
  -- the areas of all regions
  pub areas : AreaNumbers

-- the number of regions of each chunk
abbrev pub label_counts : List Labelling → List ℕ
label_counts labels = map (λ one. length one.firsts) labels

-- the same, of the tables of a class
abbrev pub region_counts : Tables → List ℕ
region_counts tables = label_counts tables.labels

-- the number of regions of all chunks
abbrev pub region_total : Tables → ℕ
region_total tables = sum_by (λ labels. length labels.firsts) tables.labels

-- the number of region edges of all chunks
abbrev pub edge_total : Tables → ℕ
edge_total tables = sum_by length tables.east + sum_by length tables.north

-- an edge leads from region a to region b, whose chunks are named by their places
pub record HaveEdge (passes : Cell → Bool) (size : Size) (a b : RegionId) : Type 0 where
  pub here : Chunk
  pub there : Chunk
  pub next : IsNextChunk here there
  pub edge : IsEdge passes here there a.region b.region
  pub from : a.chunk ≡ chunk_place size here
  pub to : b.chunk ≡ chunk_place size there

-- the links are exactly the region edges of the map
pub record AreLinks (passes : Cell → Bool) (size : Size) (links : List (RegionId × RegionId)) : Type 0 where
  pub each : (a b : RegionId) → Contains links (a, b) → HaveEdge passes size a b
  pub all : (a b : RegionId) → HaveEdge passes size a b → Contains links (a, b)

-- the labels of all chunks of a map, in order
abbrev pub AreAllLabels : (Cell → Bool) → Size → List Labelling → Type 0
AreAllLabels passes size all =
    AreOfChunks size (chunk_count size) (λ chunk labels. AreLabels passes size chunk labels) all

-- the region edges of all chunks of a map to their neighbours on that side, in order
abbrev pub AreAllEdges : ChunkSide → (Cell → Bool) → Size → List (List (ℕ × ℕ)) → Type 0
AreAllEdges side passes size all =
    AreOfChunks size (chunk_count size) (λ chunk edges. AreEdges passes chunk (neighbour_on side chunk) edges) all

-- The tables are those of a class in a map of this size, where `passes` says which cells are passable for the class.
pub record AreTables (passes : Cell → Bool) (size : Size) (tables : Tables) : Type 0 where
  pub labels_are : AreAllLabels passes size tables.labels
  pub east_are : AreAllEdges East passes size tables.east
  pub north_are : AreAllEdges North passes size tables.north
  pub links : List (RegionId × RegionId)
  pub links_are : AreLinks passes size links
  pub areas_are : AreAreas (region_counts tables) links tables.areas

-- the tables are those of some class in a map of this size
abbrev pub AreOfMap : Size → Tables → Type 0
AreOfMap size tables = (passes : Cell → Bool) × AreTables passes size tables

-- the number of a cell's region by the labels of its chunk; 0 where there are none
abbrev pub number_in : Option Labelling → Cell → ℕ
number_in None cell = 0
number_in (Some labels) cell = number_of labels.cells cell

-- the region of a cell: its chunk's place, and its number in the chunk
abbrev pub region_in : Size → Tables → Cell → RegionId
region_in size tables cell = record {
  chunk = chunk_place size (chunk_of cell);
  region = number_in (slice_get tables.labels (chunk_place size (chunk_of cell))) cell;
}

-- few enough regions and edges for their sums: a chunk has at most one region for each of its cells, and a pair of chunks
-- at most one edge for each pair of regions
pub record AreFew (tables : Tables) : Type 0 where
  pub regions : region_total tables ≤ MAX_CHUNKS * CHUNK_CELLS
  pub edges : edge_total tables < 2 ^ 37

-- the numbers of all regions and of all edges, which are few enough
pub record HasTotals (tables : Tables) (regions edges : ℕ) : Type 0 where
  pub few : AreFew tables
  pub regions_are : regions ≡ region_total tables
  pub edges_are : edges ≡ edge_total tables
