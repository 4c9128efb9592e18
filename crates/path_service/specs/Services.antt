-- What a driver is seen as.
use Rattle.std.specs.Prelude.{ℕ, Bool, false, List, [], ◌∷◌, drop, replicate, slice_index, slice_set, max}
use Rattle.posts.specs.declared.posts.Post.{Post}
use Rattle.posts.specs.declared.replies.Reply.{Reply}
use Rattle.posts.specs.Maps.{Map}
use Rattle.path_service.specs.machine.Table.{first}
use Rattle.path_service.specs.machine.States.{State, opening}
use Rattle.path_service.specs.Callers.{CallerId}

-- A driver: the state of the turn machine as it knows it, and by the callers' numbers who they are, of how many posts it
-- was told, and what was sent to each. In the state, `posted` is what was taken off the lanes of posts, and nothing is
-- collected, since callers do that by themselves.
pub record DriverState : Type 0 where
  pub machine : State
  pub callers : List CallerId
  pub told : List ℕ
  pub sent : List (List Reply)
  pub failed : Bool

-- a driver of these callers on a map, as its service starts
abbrev pub started_on : Map → List CallerId → DriverState
started_on m ids = record {
  machine = opening m;
  callers = ids;
  told = replicate m.callers 0;
  sent = replicate m.callers [];
  failed = false;
}

-- what follows the first items of each list: as many as the number in its place
abbrev pub past_first : List (List Post) → List ℕ → List (List Post)
past_first [] numbers = []
past_first (posts ∷ posted) numbers = drop (first numbers) posts ∷ past_first posted (drop 1 numbers)

-- the pending posts: of each caller those that were taken off its lane and are in no turn
abbrev pub in_hand : State → List (List Post)
in_hand s = past_first s.posted s.taken

-- the same driver with another state of its machine
abbrev pub with_machine : DriverState → State → DriverState
with_machine d s = record d { machine = s }

-- the same driver, told of so many posts of one caller; of several numbers the highest stands
abbrev pub told_of : DriverState → ℕ → ℕ → DriverState
told_of d caller count = record d { told = slice_set d.told caller (max (slice_index d.told caller) count) }
