-- The regions of all chunks in one row: chunk after chunk, each chunk's regions by number.
use Rattle.std.specs.Prelude.{ℕ, ◌≡◌, ◌<◌, ◌≤◌, ◌+◌, ◌-◌, ◌⊎◌, List, length, take, sum, slice_index}
use Rattle.reach_sets.specs.declared.regions.RegionId.{RegionId}

-- the region exists: its chunk is one of those whose numbers of regions are listed, and its own number is from 1 to
-- that
pub record IsRegion (regions : List ℕ) (id : RegionId) : Type 0 where
  pub chunk : id.chunk < length regions
  pub first : 1 ≤ id.region
  pub last : id.region ≤ slice_index regions id.chunk

-- the order of regions: by chunk, then by number
abbrev pub IsRegionBefore : RegionId → RegionId → Type 0
IsRegionBefore a b = (a.chunk < b.chunk) ⊎ ((a.chunk ≡ b.chunk) × (a.region < b.region))

-- how many regions stand before this one in the row
abbrev pub place : List ℕ → RegionId → ℕ
place regions id = sum (take id.chunk regions) + (id.region - 1)
