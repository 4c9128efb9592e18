-- Areas of regions of which few have links: a region without links is an area of its own.
use Rattle.std.specs.Prelude.{ℕ, zero, suc, ◌≡◌, ◌≢◌, ◌<◌, ◌≤◌, ◌+◌, ◌-◌, ◌^◌, ◌/◌, ◌==◌, ◌⊎◌, List, length, map, sum, slice_index, if◌then◌else◌, IsTrue, All, Contains}
use Rattle.std.specs.List.{range_with_len}
use Rattle.reach_sets.specs.declared.regions.RegionId.{RegionId}
use Rattle.reach_sets.specs.RegionOrder.{place}
use Rattle.reach_sets.specs.inner.Forests.{IsForest, IsForestOf}
use Rattle.reach_sets.specs.inner.EndMarks.{is_marked, marked_before}

-- the place is that of a region at an end of a link
abbrev pub IsEnd : List ℕ → List (RegionId × RegionId) → ℕ → Type 0
IsEnd regions links k =
    (link : RegionId × RegionId) × (Contains links link × ((place regions link.0 ≡ k) ⊎ (place regions link.1 ≡ k)))

-- the regions of the link are marked
abbrev pub HasMarks : List ℕ → List ℕ → RegionId × RegionId → Type 0
HasMarks regions words link = IsTrue (is_marked words (place regions link.0)) × IsTrue (is_marked words (place regions link.1))

-- exactly the places of regions with links are marked
pub record AreEnds (regions : List ℕ) (links : List (RegionId × RegionId)) (words : List ℕ) : Type 0 where
  pub all : All (HasMarks regions words) links
  pub only : (k : ℕ) → IsTrue (is_marked words k) → IsEnd regions links k

-- the marked places below `n`, in order
pub record ArePlaces (words places : List ℕ) (n : ℕ) : Type 0 where
  pub each : length places ≡ marked_before words n
  pub at : (k : ℕ) → k < n → IsTrue (is_marked words k) → slice_index places (marked_before words k) ≡ k

-- the parent of each place, where marked places have theirs by number, and each other place is its own
abbrev pub parent_at : List ℕ → List ℕ → List ℕ → ℕ → ℕ
parent_at words places parents k =
    if is_marked words k then slice_index places (slice_index parents (marked_before words k)) else k

abbrev pub all_parents : List ℕ → List ℕ → List ℕ → ℕ → List ℕ
all_parents words places parents n = map (parent_at words places parents) (range_with_len 0 n)

-- how many of the first places of a forest are not roots
abbrev pub children_before : List ℕ → ℕ → ℕ
children_before parents zero = 0
children_before parents (suc k) = children_before parents k + (if slice_index parents k == k then 0 else 1)

-- the area of each marked place: a root's comes after the areas of all places before it that are the first of theirs
pub record AreEndAreas (places parents areas : List ℕ) : Type 0 where
  pub each : length areas ≡ length parents
  pub root : (k : ℕ) → k < length areas → slice_index parents k ≡ k
      → slice_index areas k + children_before parents k ≡ slice_index places k + 1
  pub child : (k : ℕ) → k < length areas → slice_index parents k ≢ k → slice_index areas k ≡ slice_index areas (slice_index parents k)

-- the area of a place: where it is not marked, 1 more than there are first places of areas before it
abbrev pub area_at : List ℕ → List ℕ → List ℕ → ℕ → ℕ
area_at words areas joined k =
    if is_marked words k then slice_index areas (marked_before words k) else k + 1 - slice_index joined (marked_before words k)

abbrev pub all_areas : List ℕ → List ℕ → List ℕ → ℕ → List ℕ
all_areas words areas joined n = map (area_at words areas joined) (range_with_len 0 n)

-- lists as long as the marks say; no more places are joined to earlier ones than are marked
pub record FitMarks (words areas joined : List ℕ) (n : ℕ) : Type 0 where
  pub small : n < 2 ^ 32
  pub wide : length words ≡ n / 64 + 1
  pub areas_each : length areas ≡ marked_before words n
  pub joined_each : length joined ≡ marked_before words n + 1
  pub few : (k : ℕ) → k < length joined → slice_index joined k ≤ k

-- the places of the regions with links, and a forest over them by their numbers, which the links make
pub record IsEndForest (regions : List ℕ) (links : List (RegionId × RegionId)) (words places parents : List ℕ) : Type 0 where
  pub forest : IsForest parents
  pub each : length parents ≡ marked_before words (sum regions)
  pub places_are : ArePlaces words places (sum regions)
  pub joins : IsForestOf regions links (all_parents words places parents (sum regions))

-- for each number of places, how many of the first that many are not roots
pub record AreChildCounts (parents joined : List ℕ) : Type 0 where
  pub each : length joined ≡ length parents + 1
  pub counts : (k : ℕ) → k < length joined → slice_index joined k ≡ children_before parents k
