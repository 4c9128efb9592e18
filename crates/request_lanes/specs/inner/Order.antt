-- The rule of a lane. A pass knows what it may do, what was posted and taken by it, and how many posts it was told of.
use Rattle.std.specs.Prelude.{◌≡◌, ℕ, ◌^◌, ◌≤◌, Bool, true, List, [], ◌∷◌, ◌++◌, length}
use mathlib.Core.Option.{some}
use lib.ListN.{get_elem?}
use Rattle.request_lanes.specs.declared.rule.Log.{Log}

module _ {T : Type 0} where
  abbrev pub log : Bool → Bool → List T → List T → ℕ → Log T
  log posts takes posted taken told =
      record { posts = posts; takes = takes; posted = posted; taken = taken; told = told }

  -- the item joins what was posted
  abbrev pub posting : Log T → T → Log T
  posting v item = log v.posts v.takes (v.posted ++ item ∷ []) v.taken v.told

  -- the item joins what was taken
  abbrev pub taking : Log T → T → Log T
  taking v item = log v.posts v.takes v.posted (v.taken ++ item ∷ []) v.told

  -- one pass at most may post, and it has the list of what was posted. The same for what was taken. No pass was told of
  -- more than was posted
  pub record IsPassOf (poster taker : ℕ) (posted taken : List T) (pass : ℕ) (v : Log T) : Type 0 where
    pub posts : v.posts ≡ true → (pass ≡ poster) × (v.posted ≡ posted)
    pub takes : v.takes ≡ true → (pass ≡ taker) × (v.taken ≡ taken)
    pub told : v.told ≤ length posted

  -- what was taken, followed by what is queued, is what was posted, which are at most 2^62 items
  pub record InOrder (queued : List T) (views : List (Log T)) : Type 0 where
    pub poster : ℕ
    pub taker : ℕ
    pub posted : List T
    pub taken : List T
    pub whole : posted ≡ taken ++ queued
    pub few : length posted ≤ 2 ^ 62
    pub fits : (pass : ℕ) (v : Log T) → get_elem? views pass ≡ some v → IsPassOf poster taker posted taken pass v
