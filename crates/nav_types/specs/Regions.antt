-- Regions of a chunk, region edges and areas of a class, and how many of them a map has.
use Rattle.std.specs.Prelude.{ℕ, Bool, ◌≡◌, ◌≢◌, ◌+◌, ◌/◌, ◌<◌, ◌⊎◌, ◌&&◌, ◌==◌, List, IsTrue}
use Rattle.std.specs.List.{AllPass}
use Rattle.nav_types.specs.declared.limits.TheConstants.{CHUNK_SIDE}
use Rattle.nav_types.specs.declared.cells.Cell.{Cell}
use Rattle.nav_types.specs.declared.cells.Chunk.{Chunk}
use Rattle.nav_types.specs.declared.directions.Dir.{Dir}
use Rattle.nav_types.specs.Cells.{chunk_of, IsBefore, IsChunkBefore}
use Rattle.nav_types.specs.Directions.{is_straight, Leads}
use Rattle.nav_types.specs.Walks.{IsWalk, Joined}
use Rattle.nav_types.specs.Counting.{IsFirst, HasNumber, Counts}

-- the cell is passable and in the chunk
abbrev pub passes_in : (Cell → Bool) → Chunk → Cell → Bool
passes_in passes chunk cell = (cell.i / CHUNK_SIDE == chunk.ci) && (cell.j / CHUNK_SIDE == chunk.cj) && passes cell

-- a legal walk of straight steps joins the two cells
abbrev pub JoinedStraight : (Cell → Bool) → Cell → Cell → Type 0
JoinedStraight passes from to = (dirs : List Dir) × (AllPass is_straight dirs × IsWalk passes from dirs to)

-- a legal walk of straight steps inside the chunk joins the two cells: they are of one region
abbrev pub InOneRegion : (Cell → Bool) → Chunk → Cell → Cell → Type 0
InOneRegion passes chunk from to = JoinedStraight (passes_in passes chunk) from to

-- the number of the cell's region in the chunk, in the order of first cells; 0 for a cell that is not passable in the
-- chunk
abbrev pub HasRegion : (Cell → Bool) → Chunk → Cell → ℕ → Type 0
HasRegion passes chunk cell number = HasNumber (passes_in passes chunk) (InOneRegion passes chunk) IsBefore cell number

-- the cell is the first of its region
abbrev pub IsRegionFirst : (Cell → Bool) → Cell → Type 0
IsRegionFirst passes cell =
    IsFirst (passes_in passes (chunk_of cell)) (InOneRegion passes (chunk_of cell)) IsBefore cell

-- the chunk there is the east or the north neighbour of the chunk here
abbrev pub IsNextChunk : Chunk → Chunk → Type 0
IsNextChunk here there = ((there.ci ≡ here.ci + 1) × (there.cj ≡ here.cj))
    ⊎ ((there.ci ≡ here.ci) × (there.cj ≡ here.cj + 1))

-- one straight step leads from one cell to the other
abbrev pub IsBeside : Cell → Cell → Type 0
IsBeside a b = (dir : Dir) × (IsTrue (is_straight dir) × Leads dir a b)

-- the regions of two neighbouring chunks have passable cells that lie side by side
pub record IsEdge (passes : Cell → Bool) (here there : Chunk) (near far : ℕ) : Type 0 where
  pub from : Cell
  pub to : Cell
  pub beside : IsBeside from to
  pub from_passes : IsTrue (passes_in passes here from)
  pub to_passes : IsTrue (passes_in passes there to)
  pub from_region : HasRegion passes here from near
  pub to_region : HasRegion passes there to far

-- areas are ordered by the first region that each holds: by chunk, then by cell
abbrev pub IsAreaBefore : Cell → Cell → Type 0
IsAreaBefore a b = IsChunkBefore (chunk_of a) (chunk_of b) ⊎ ((chunk_of a ≡ chunk_of b) × IsBefore a b)

-- the number of the cell's area: cells are of one area where a legal walk joins them; 0 for an impassable cell
abbrev pub HasArea : (Cell → Bool) → Cell → ℕ → Type 0
HasArea passes cell number = HasNumber passes (Joined passes) IsAreaBefore cell number

-- the cell is the first of its area
abbrev pub IsAreaFirst : (Cell → Bool) → Cell → Type 0
IsAreaFirst passes cell = IsFirst passes (Joined passes) IsAreaBefore cell

-- how many regions, region edges and areas all classes of a map have together
pub record HasTallies (classes : ℕ) (passes : ℕ → Cell → Bool) (regions edges areas : ℕ) : Type 0 where
  pub region_count : Counts (λ (r : ℕ × Cell). (r.0 < classes) × IsRegionFirst (passes r.0) r.1) regions
  pub edge_count : Counts (λ (e : ℕ × Chunk × Chunk × ℕ × ℕ). (e.0 < classes)
      × (IsNextChunk e.1 e.2 × IsEdge (passes e.0) e.1 e.2 e.3 e.4)) edges
  pub area_count : Counts (λ (a : ℕ × Cell). (a.0 < classes) × IsAreaFirst (passes a.0) a.1) areas

-- how many pairs of class and chunk have a cell that is passable before and not now, or now and not before
abbrev pub HasRelabelled : ℕ → (ℕ → Cell → Bool) → (ℕ → Cell → Bool) → ℕ → Type 0
HasRelabelled classes before now count =
    Counts (λ (p : ℕ × Chunk). (p.0 < classes)
    × ((cell : Cell) × ((chunk_of cell ≡ p.1) × (before p.0 cell ≢ now p.0 cell)))) count
