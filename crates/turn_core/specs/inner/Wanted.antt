-- What a request wants, and what a search for a walk gives within a greatest cost.
use Rattle.std.specs.Prelude.{ℕ, ◌≡◌, ◌≤◌, Option, None, Some}
use Rattle.nav_types.specs.declared.cells.Cell.{Cell}
use Rattle.goal_reach.specs.declared.targets.Target.{Target}
use Rattle.goal_reach.specs.Targets.{framed_by, hit_by}
use Rattle.walks.specs.declared.found_walk.Found.{Found}
use Rattle.jump_search.specs.Questions.{Asked}
use Rattle.jump_search.specs.Within.{IsTooFar, IsAnswerWithin as IsSearchedWithin}
use Rattle.posts.specs.declared.replies.Answer.{Answer}
use Rattle.posts.specs.declared.replies.Answer.TheVariants.{Path as IsPath}
use Rattle.grid_versions.specs.Versions.{MapState, passes_of}
use Rattle.turn_core.specs.declared.near_answers.Walk.{Walk}
use Rattle.turn_core.specs.declared.near_answers.Wanted.{Wanted}
use Rattle.turn_core.specs.declared.near_answers.Wanted.TheVariants.{Known, Walked}
use Rattle.turn_core.specs.inner.Searching.{CanFind, IsFoundTo, path_by}
use Rattle.turn_core.specs.Within.{IsFarther}

-- a search on a version for the walk of a class from a start cell to a target
abbrev pub asked_on : MapState → ℕ → Cell → Target → Asked
asked_on state class start target = record {
  passes = passes_of state class;
  start = start;
  hit = hit_by target;
  framed = framed_by target;
  size = state.map.size;
}

-- the walk that is found within the greatest cost is the chosen one to the target, and none is exactly where it costs more
abbrev pub IsFoundWithin : MapState → ℕ → Cell → Target → ℕ → Option Found → Type 0
IsFoundWithin state class start target most found = IsSearchedWithin (asked_on state class start target) most found

-- the same of the path of the walk
abbrev pub IsWalkedWithin : MapState → Walk → ℕ → Option Answer → Type 0
IsWalkedWithin state walk most None = IsTooFar (asked_on state walk.class walk.start walk.target) most
IsWalkedWithin state walk most (Some answer) = (found : Found) × ((answer ≡ IsPath (path_by walk.start walk.target found))
    × (IsFoundTo state walk.class walk.start walk.target found × (found.cost.0 ≤ most)))

-- The answer is the path by the chosen walk from the start to the target, which can be found.
pub record IsWalkFor (state : MapState) (Answers : Answer → Type 0) (walk : Walk) : Type 0 where
  pub can : CanFind state walk.class walk.start walk.target
  pub gives : (found : Found) → IsFoundTo state walk.class walk.start walk.target found
      → Answers (IsPath (path_by walk.start walk.target found))
  pub only : (answer : Answer) → Answers answer → (found : Found)
      × ((answer ≡ IsPath (path_by walk.start walk.target found)) × IsFoundTo state walk.class walk.start walk.target found)

-- what is wanted for the answer: one that is no path, or a walk
abbrev pub IsWanted : MapState → (Answer → Type 0) → Wanted → Type 0
IsWanted state Answers (Known answer) = Answers answer × ((most : ℕ) → IsFarther most answer → ⊥)
IsWanted state Answers (Walked walk) = IsWalkFor state Answers walk
