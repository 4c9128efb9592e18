-- Areas: the groups of regions that links join, and their numbers.
use Rattle.std.specs.Prelude.{ℕ, ◌≡◌, ◌↔◌, ◌+◌, ◌==◌, if◌then◌else◌, List, length, sum, slice_index, slice_get, Some, Contains, AllPairs}
use Rattle.reach_sets.specs.declared.regions.RegionId.{RegionId}
use Rattle.reach_sets.specs.Chains.{AreChained}
use Rattle.reach_sets.specs.RegionOrder.{IsRegion, IsRegionBefore, place}

-- the areas of all regions
pub record AreaNumbers : Type 0 where
  -- the number of regions of each chunk
  pub regions : List ℕ
  -- the area of each region, in the order of regions
  pub areas : List ℕ
  -- how many areas there are
  pub count : ℕ

-- the area of a region; 0 for region 0, which is none
abbrev pub area_of : AreaNumbers → RegionId → ℕ
area_of table id = if id.region == 0 then 0 else slice_index table.areas (place table.regions id)

-- one of the links is this pair
abbrev pub IsLink : List (RegionId × RegionId) → RegionId → RegionId → Type 0
IsLink links a b = Contains links (a, b)

-- a chain of links, each read either way, joins the two regions
abbrev pub AreJoined : List (RegionId × RegionId) → RegionId → RegionId → Type 0
AreJoined links a b = AreChained (IsLink links) a b

-- the region exists, and no region that is joined to it comes before it
pub record IsFirstRegion (regions : List ℕ) (links : List (RegionId × RegionId)) (id : RegionId) : Type 0 where
  pub exists : IsRegion regions id
  pub earliest : (other : RegionId) → IsRegion regions other → AreJoined links id other → IsRegionBefore other id → ⊥

-- the first regions of all areas, in order
pub record AreFirstRegions (regions : List ℕ) (links : List (RegionId × RegionId))
    (firsts : List RegionId) : Type 0 where
  pub each : (id : RegionId) → Contains firsts id → IsFirstRegion regions links id
  pub all : (id : RegionId) → IsFirstRegion regions links id → Contains firsts id
  pub rising : AllPairs IsRegionBefore firsts

-- the number is 1 plus the place of the first region of this one's area among the first regions of all areas
pub record HasAreaNumber (links : List (RegionId × RegionId)) (firsts : List RegionId) (id : RegionId)
    (number : ℕ) : Type 0 where
  pub place : ℕ
  pub first : RegionId
  pub at : slice_get firsts place ≡ Some first
  pub joined : AreJoined links id first
  pub number_is : number ≡ place + 1

-- The areas of these regions under these links: two regions have one area exactly where links join them,
-- and areas are numbered from 1 in the order of their first regions.
pub record AreAreas (regions : List ℕ) (links : List (RegionId × RegionId)) (table : AreaNumbers) : Type 0 where
  pub regions_are : table.regions ≡ regions
  pub each : length table.areas ≡ sum regions
  pub together : (a b : RegionId) → IsRegion regions a → IsRegion regions b
      → (area_of table a ≡ area_of table b) ↔ AreJoined links a b
  pub firsts : List RegionId
  pub are_firsts : AreFirstRegions regions links firsts
  pub numbers : (id : RegionId) → IsRegion regions id → HasAreaNumber links firsts id (area_of table id)
  pub count_is : table.count ≡ length firsts
