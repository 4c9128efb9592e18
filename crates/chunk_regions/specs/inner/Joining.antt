-- The regions of a chunk's spans by one pass over them, as in the labelling of connected components by runs: each
-- span takes the region of a span that it overlaps in the row before, and regions that a span joins are linked, the later to
-- the earlier one. At the end a region has the number of the one that it is linked to.
use Rattle.std.specs.Prelude.{ℕ, zero, suc, Bool, ◌≡◌, ◌+◌, ◌-◌, ◌<◌, ◌≤◌, List, Some, IsTrue, AllPairs, min, max, slice_get, slice_index, slice_set, length}
use Rattle.nav_types.specs.declared.cells.Cell.{Cell}
use Rattle.nav_types.specs.declared.cells.Chunk.{Chunk}
use Rattle.nav_types.specs.Cells.{IsBefore}
use Rattle.nav_types.specs.Counting.{HasNumber, AreFirsts}
use Rattle.nav_types.specs.Regions.{JoinedStraight}
use Rattle.chunk_regions.specs.declared.label_spans.Place.{Place}
use Rattle.chunk_regions.specs.declared.spans.Span.{Span}
use Rattle.chunk_regions.specs.inner.Spans.{Runs, IsPlace, IsCut, HasCell}

-- a column holds cells of both spans, which are of neighbouring rows
pub record Overlap (runs : Runs) (south north : Place) : Type 0 where
  pub south_is : IsPlace runs south
  pub north_is : IsPlace runs north
  pub rows : north.row ≡ south.row + 1
  pub low : Span
  pub high : Span
  pub found_low : slice_get runs.spans south.at ≡ Some low
  pub found_high : slice_get runs.spans north.at ≡ Some high
  pub west : low.first ≤ high.last
  pub east : high.first ≤ low.last

-- the spans from a place on and before another reach the column
abbrev pub Reach : Runs → ℕ → ℕ → ℕ → Type 0
Reach runs column from to =
    (k : ℕ) (span : Span) → from ≤ k → k < to → slice_get runs.spans k ≡ Some span → column ≤ span.last

-- the region that a region is linked to is an earlier one, or itself
abbrev pub LeadDown : List ℕ → Type 0
LeadDown links =
    (place : ℕ) → place < length links → (1 ≤ slice_index links place) × (slice_index links place ≤ place + 1)

-- the region so many links on from one
abbrev pub follow : List ℕ → ℕ → ℕ → ℕ
follow links zero region = region
follow links (suc steps) region = slice_index links (follow links steps region - 1)

-- the region is linked to none before it
pub record IsRoot (links : List ℕ) (region : ℕ) : Type 0 where
  pub some : 1 ≤ region
  pub within : region ≤ length links
  pub last : slice_index links (region - 1) ≡ region

-- links lead from the region to the root
pub record IsRootOf (links : List ℕ) (region root : ℕ) : Type 0 where
  pub steps : ℕ
  pub led : follow links steps region ≡ root
  pub is : IsRoot links root

-- the later of a root and the root of another region is linked to the earlier one
pub record AreJoined (links : List ℕ) (region other : ℕ) (joined : List ℕ) (earlier : ℕ) : Type 0 where
  pub root : ℕ
  pub found : IsRootOf links other root
  pub linked : joined ≡ slice_set links (max region root - 1) (min region root)
  pub is : earlier ≡ min region root

-- regions that are linked share their numbers
abbrev pub AreShared : List ℕ → (ℕ → ℕ) → Type 0
AreShared links number =
    (place : ℕ) → place < length links → number (slice_index links place) ≡ number (place + 1)

-- links make the regions one: they have one number wherever regions that are linked share theirs
abbrev pub AreOne : List ℕ → ℕ → ℕ → Type 0
AreOne links a b = (number : ℕ → ℕ) → AreShared links number → number a ≡ number b

-- regions that were one still are
abbrev pub KeepsShared : List ℕ → List ℕ → Type 0
KeepsShared old new = (number : ℕ → ℕ) → AreShared new number → AreShared old number

-- the region is one with that of each span before place `to` that the span overlaps in the row before
abbrev pub MeetsTo : Runs → List ℕ → List ℕ → Place → ℕ → ℕ → Type 0
MeetsTo runs regions links north region to =
    (south : Place) → Overlap runs south north → south.at < to → AreOne links (slice_index regions south.at) region

-- the region is the newest span's so far: a root, and one with those of the spans before place `to` that it overlaps
pub record IsNewest (runs : Runs) (regions links : List ℕ) (north : Place) (region to : ℕ) : Type 0 where
  pub root : IsRoot links region
  pub met : MeetsTo runs regions links north region to

-- of the spans before place `here` those that overlap have regions that are one
abbrev pub AreUnited : Runs → List ℕ → List ℕ → ℕ → Type 0
AreUnited runs regions links here =
    (north : Place) → north.at < here → MeetsTo runs regions links north (slice_index regions north.at) here

-- there are no more regions than spans, and each span has a number from 1 to the count of regions
pub record AreBounded (regions : List ℕ) (firsts : List Cell) : Type 0 where
  pub few : length firsts ≤ length regions
  pub within : (k : ℕ) → k < length regions → (1 ≤ slice_index regions k) × (slice_index regions k ≤ length firsts)

-- the same, and each region is linked to an earlier one or itself
pub record AreGrown (regions : List ℕ) (firsts : List Cell) (links : List ℕ) : Type 0 where
  pub bounded : AreBounded regions firsts
  pub each : length links ≡ length firsts
  pub down : LeadDown links

-- the number is 1 plus the place of a first cell that the cell is joined to, and that does not come after it
pub record IsNumberAmong (passes : Cell → Bool) (firsts : List Cell) (cell : Cell) (number : ℕ) : Type 0 where
  pub place : ℕ
  pub first : Cell
  pub found : slice_get firsts place ≡ Some first
  pub joined : JoinedStraight passes cell first
  pub early : IsBefore cell first → ⊥
  pub value : number ≡ place + 1

-- each region's first cell is joined to that of the region that it is linked to, which does not come after it
abbrev pub AreLinked : (Cell → Bool) → List Cell → List ℕ → Type 0
AreLinked passes firsts links =
    (place : ℕ) (first : Cell) → slice_get firsts place ≡ Some first
    → IsNumberAmong passes firsts first (slice_index links place)

-- the cells of a span are joined to the first one of a region
abbrev pub AreOf : (Cell → Bool) → Chunk → Runs → List Cell → Place → ℕ → Type 0
AreOf passes chunk runs firsts place region =
    (cell : Cell) → HasCell chunk runs place cell → IsNumberAmong passes firsts cell region

-- The regions of the spans so far are groups of joined cells: each cell is joined to the first one of its span's
-- region, which is joined to that of the region that it is linked to, and the regions' first cells rise.
pub record AreGroups (passes : Cell → Bool) (chunk : Chunk) (runs : Runs) (regions : List ℕ) (firsts : List Cell)
    (links : List ℕ) : Type 0 where
  pub placed : (place : Place) (cell : Cell) → HasCell chunk runs place cell → place.at < length regions
      → IsNumberAmong passes firsts cell (slice_index regions place.at)
  pub first_numbers : (k : ℕ) (first : Cell) → slice_get firsts k ≡ Some first
      → (place : Place) × (HasCell chunk runs place first × ((place.at < length regions) × (slice_index regions place.at ≡ k + 1)))
  pub linked : AreLinked passes firsts links
  pub rising : AllPairs IsBefore firsts

-- where the regions were groups, the new ones are
abbrev pub KeepsGroups : Chunk → Runs → List ℕ → List Cell → List ℕ → List ℕ → List Cell → List ℕ → Type 0
KeepsGroups chunk runs regions firsts links new_regions new_firsts new_links =
    (passes : Cell → Bool) → IsCut passes chunk runs → AreGroups passes chunk runs regions firsts links
    → AreGroups passes chunk runs new_regions new_firsts new_links

-- the same with new links alone, where the newest span's cells were of one region and are of another
abbrev pub KeepsJoining : Chunk → Runs → List ℕ → List Cell → Place → List ℕ → ℕ → List ℕ → ℕ → Type 0
KeepsJoining chunk runs regions firsts place links region new_links new_region =
    (passes : Cell → Bool) → IsCut passes chunk runs → AreGroups passes chunk runs regions firsts links
    → AreOf passes chunk runs firsts place region
    → AreGroups passes chunk runs regions firsts new_links × AreOf passes chunk runs firsts place new_region

-- Of the regions before place `to` each has its number in place of its link, which is shared by those that are linked, and
-- `roots` are the first cells of those that are linked to none before them, in order.
pub record AreNumbers (firsts : List Cell) (links numbers : List ℕ) (roots : List Cell) (to : ℕ) : Type 0 where
  pub each : length numbers ≡ length links
  pub rest : (place : ℕ) → to ≤ place → slice_index numbers place ≡ slice_index links place
  pub few : length roots ≤ to
  pub within : (place : ℕ) → place < to → (1 ≤ slice_index numbers place) × (slice_index numbers place ≤ length roots)
  pub shared : (place : ℕ) → place < to → slice_index numbers (slice_index links place - 1) ≡ slice_index numbers place
  pub found : (number : ℕ) (first : Cell) → slice_get roots number ≡ Some first
      → (place : ℕ) × ((place < to) × ((slice_get firsts place ≡ Some first) × (slice_index numbers place ≡ number + 1)))
  pub placed : (passes : Cell → Bool) (place : ℕ) (first : Cell) → AreLinked passes firsts links
      → AllPairs IsBefore firsts → place < to → slice_get firsts place ≡ Some first
      → IsNumberAmong passes roots first (slice_index numbers place)
  pub rising : AllPairs IsBefore firsts → AllPairs IsBefore roots

-- the number of a region
abbrev pub number_in : List ℕ → ℕ → ℕ
number_in numbers region = slice_index numbers (region - 1)

-- each passable cell has the number of its group in the order of first cells, where straight steps join a group
pub record IsNumbered (passes : Cell → Bool) (number : Cell → ℕ) (firsts : List Cell) : Type 0 where
  pub numbers : (cell : Cell) → IsTrue (passes cell)
      → HasNumber passes (JoinedStraight passes) IsBefore cell (number cell)
  pub first_cells : AreFirsts passes (JoinedStraight passes) IsBefore firsts
