-- A service that has ended: what its callers posted and collected, and what is left.
use Rattle.std.specs.Prelude.{ℕ, ◌≡◌, ◌⊎◌, true, Option, List, [], ◌++◌, All, length, map}
use Rattle.posts.specs.declared.posts.Post.{Post}
use Rattle.posts.specs.declared.replies.Reply.{Reply}
use Rattle.posts.specs.declared.replies.TurnReplies.{TurnReplies}
use Rattle.posts.specs.Maps.{Map}
use Rattle.posts.specs.Callers.{of_caller, list_of}
use Rattle.turn_core.specs.Turns.{replies_in, IsOneThread}
use Rattle.path_service.specs.machine.States.{State, opening}
use Rattle.path_service.specs.machine.Effects.{IsMachineRun}
use Rattle.path_service.specs.machine.Arrival.{arrival, HasArrived}
use Rattle.path_service.specs.machine.Facts.{all_turns, HaveLists}
use Rattle.request_lanes.specs.Ends.{Leaves}
use Rattle.path_service.specs.declared.closing.ClosedCaller.{ClosedCaller}
use Rattle.path_service.specs.Callers.{EndedState, ended_id, AreNumbered}
use Rattle.path_service.specs.Services.{DriverState, in_hand}
use Rattle.path_service.specs.Steps.{AreDue, BeginEach}

-- a service that has ended: its map, the turns that were delivered, the replies to them, and the callers' lanes
pub record ClosedState : Type 0 where
  pub map : Map
  pub journal : List (List (List Post))
  pub replies : List TurnReplies
  pub callers : List ClosedCaller

-- the lanes of a caller that has ended: on the one, what it posted and what the driver took of that; on the other, what
-- the driver sent to it and what it collected of that
abbrev pub closed_by : DriverState → EndedState → ClosedCaller
closed_by d ended = record {
  posts_left = record { posted = ended.posted; taken = list_of d.machine.posted ended.id.number };
  replies_left = record { posted = list_of d.sent ended.id.number; taken = ended.collected };
}

-- what was taken off each of both lanes, followed by what is left, is what was put on it
pub record HasLeft (caller : ClosedCaller) : Type 0 where
  pub posts : (left : List Post) × Leaves caller.posts_left left
  pub replies : (left : List Reply) × Leaves caller.replies_left left

-- what a caller posted: its posts in the delivered turns, in the running and in the staged one, then the pending ones, and
-- then what is left on its lane
abbrev pub PostedIsFound : DriverState → EndedState → Type 0
PostedIsFound d ended =
    (left : List Post)
    × (Leaves (closed_by d ended).posts_left left
    × (ended.posted ≡ of_caller ended.id.number (all_turns d.machine) ++ list_of (in_hand d.machine) ended.id.number ++ left))

-- What was sent to each caller: the replies to it in all turns that are done. Where a delivery broke off, the first of
-- the replies that were due to it follow.
pub record HasSent (d : DriverState) (all : List TurnReplies) : Type 0 where
  pub more : List (List Reply)
  pub sent : (caller : ℕ) → list_of d.sent caller ≡ of_caller caller (replies_in all) ++ list_of more caller
  pub begins : (more ≡ []) ⊎ ((d.failed ≡ true) × ((due : List (List Reply)) × (AreDue d.machine due × BeginEach more due)))

-- The service of a driver and its callers is closed: each of the map's callers is there, by its number.
pub record IsClosedBy (d : DriverState) (ended : List EndedState) (closed : ClosedState) : Type 0 where
  pub on_map : closed.map ≡ d.machine.map
  pub journal : closed.journal ≡ d.machine.done
  pub wide : HaveLists closed.map.callers closed.journal
  pub replies : IsOneThread closed.map closed.journal closed.replies
  pub count : length ended ≡ closed.map.callers
  pub numbers : AreNumbered 0 (map ended_id ended)
  pub callers : closed.callers ≡ map (closed_by d) ended
  pub left : All HasLeft closed.callers
  pub posts : All (PostedIsFound d) ended
  pub sent : HasSent d closed.replies

-- what a caller posted, and how many replies it collected
abbrev pub posted_by : EndedState → List Post
posted_by ended = ended.posted

abbrev pub count_by : EndedState → ℕ
count_by ended = length ended.collected

-- The turn machine comes from its opening state to what a service left: its callers post what the callers posted, its
-- turns are those of the journal, one after another, and each caller collects as many replies as that caller did.
abbrev pub IsReachedByMachine : List EndedState → ClosedState → Type 0
IsReachedByMachine ended closed =
    (handed : List (Option Reply)) × ((new : State)
    × (IsMachineRun (opening closed.map) (arrival closed.journal (map posted_by ended) (map count_by ended)) handed new
    × HasArrived closed.map new closed.journal (map posted_by ended) (map count_by ended) (replies_in closed.replies)))
