-- A forest over places: each place names its parent, which never stands later, and a root names itself.
use Rattle.std.specs.Prelude.{ℕ, ◌≡◌, ◌<◌, ◌≤◌, ◌+◌, ◌⊎◌, List, length, sum, slice_index, slice_get, Some, Contains, AllPairs, ◌↔◌}
use Rattle.reach_sets.specs.declared.regions.RegionId.{RegionId}
use Rattle.reach_sets.specs.Chains.{AreChained}
use Rattle.reach_sets.specs.RegionOrder.{IsRegion, place}
use Rattle.reach_sets.specs.AreaNumbers.{AreJoined}

-- no parent stands later than its place
abbrev pub IsForest : List ℕ → Type 0
IsForest parents = (k : ℕ) → k < length parents → slice_index parents k ≤ k

-- the second place is the parent of the first
abbrev pub HasParent : List ℕ → ℕ → ℕ → Type 0
HasParent parents a b = (a < length parents) × (slice_index parents a ≡ b)

-- the place is a root
abbrev pub IsRoot : List ℕ → ℕ → Type 0
IsRoot parents k = HasParent parents k k

-- the two places are of one tree
abbrev pub AreInOneTree : List ℕ → ℕ → ℕ → Type 0
AreInOneTree parents a b = AreChained (HasParent parents) a b

-- the trees have the same places as before, and roots are roots still
pub record KeepsTrees (old new : List ℕ) : Type 0 where
  pub forest : IsForest new
  pub kept : (a b : ℕ) → AreInOneTree old a b → AreInOneTree new a b
  pub only : (a b : ℕ) → AreInOneTree new a b → AreInOneTree old a b
  pub roots : (k : ℕ) → IsRoot old k → IsRoot new k

-- the trees of two places are one now, and else the trees are those of before
pub record JoinsTrees (old : List ℕ) (a b : ℕ) (new : List ℕ) : Type 0 where
  pub forest : IsForest new
  pub joined : AreInOneTree new a b
  pub kept : (x y : ℕ) → AreInOneTree old x y → AreInOneTree new x y
  pub only : (x y : ℕ) → HasParent new x y → AreChained (λ s t. HasParent old s t ⊎ ((s ≡ a) × (t ≡ b))) x y

-- a place for each region, and the places of two regions are of one tree exactly where the links join the regions
pub record IsForestOf (regions : List ℕ) (links : List (RegionId × RegionId)) (parents : List ℕ) : Type 0 where
  pub forest : IsForest parents
  pub each : length parents ≡ sum regions
  pub together : (a b : RegionId) → IsRegion regions a → IsRegion regions b
      → AreInOneTree parents (place regions a) (place regions b) ↔ AreJoined links a b

-- the number of a place is 1 plus the place of its root among the roots; no root of a tree stands later than the tree's
-- places
pub record IsRootNumber (parents roots : List ℕ) (k number : ℕ) : Type 0 where
  pub place : ℕ
  pub root : ℕ
  pub at : slice_get roots place ≡ Some root
  pub number_is : number ≡ place + 1
  pub below : root ≤ k
  pub own : slice_index parents k ≡ k → root ≡ k
  pub joined : AreInOneTree parents k root

-- the numbers of the first places of a forest, in the order of roots
pub record AreRootNumbers (parents numbers : List ℕ) (count : ℕ) : Type 0 where
  pub roots : List ℕ
  pub count_is : count ≡ length roots
  pub rising : AllPairs ◌<◌ roots
  pub each_root : (k : ℕ) → Contains roots k → (k < length numbers) × (slice_index parents k ≡ k)
  pub all_roots : (k : ℕ) → k < length numbers → slice_index parents k ≡ k → Contains roots k
  pub numbers_are : (k : ℕ) → k < length numbers → IsRootNumber parents roots k (slice_index numbers k)
  pub same : (k : ℕ) → k < length numbers → slice_index numbers (slice_index parents k) ≡ slice_index numbers k
