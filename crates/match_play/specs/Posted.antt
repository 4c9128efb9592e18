-- Matches whose turns are posts as data.
use Rattle.std.specs.Prelude.{ℕ, ◌+◌, ◌-◌, ◌^◌, List, [], ◌∷◌, ◌++◌, length, min, Option, Some, None}
use Rattle.obstruction_store.specs.Standing.{Standing}
use Rattle.posts.specs.declared.posts.Post.{Post}
use Rattle.posts.specs.Maps.{Map}
use Rattle.turn_core.specs.Turns.{after_turn, standing}
use Rattle.turn_core.specs.Words.{bare}

-- what a match keeps of the turns that have ended: a journal of all of them, or what stands after them and how many they were
pub data Past : Type 0 where
  Kept : List (List (List Post)) → Past
  Unkept : Standing → ℕ → Past

-- the map, and what is kept of the turns that have ended
pub record PostedState : Type 0 where
  pub map : Map
  pub past : Past

-- the journal, where one is kept
abbrev pub journal_of : Past → Option (List (List (List Post)))
journal_of (Kept journal) = Some journal
journal_of (Unkept standing turns) = None

-- how many turns have ended
abbrev pub turns_of : Past → ℕ
turns_of (Kept journal) = length journal
turns_of (Unkept standing turns) = turns

-- what stands on a map after the turns that have ended
abbrev pub stands_after : Map → Past → Standing
stands_after m (Kept journal) = standing m bare journal
stands_after m (Unkept standing turns) = standing

-- what stands after the turns that have ended
abbrev pub standing_in : PostedState → Standing
standing_in game = stands_after game.map game.past

-- one turn more; the count stays at the greatest number of 64 bits once it is there
abbrev pub counted : ℕ → ℕ
counted turns = min (turns + 1) (2 ^ 64 - 1)

-- what is kept when a turn more has ended
abbrev pub with_turn : Map → Past → List (List Post) → Past
with_turn m (Kept journal) posts = Kept (journal ++ posts ∷ [])
with_turn m (Unkept standing turns) posts = Unkept (after_turn m standing posts) (counted turns)

-- the match keeps no journal from then on
abbrev pub without_journal : PostedState → PostedState
without_journal game = record game { past = Unkept (standing_in game) (turns_of game.past) }
