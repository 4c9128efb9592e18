-- What a driver holds, and the state that it stands for.
use Rattle.std.specs.Prelude.{ℕ, ◌≡◌, ◌-◌, ◌≤◌, Bool, true, false, Option, None, Some, List, [], ◌∷◌, ◌++◌, All, drop, length, replicate}
use Rattle.nav_types.specs.declared.limits.TheConstants.{MAX_STAGED_POSTS}
use Rattle.posts.specs.declared.posts.Post.{Post}
use Rattle.posts.specs.declared.replies.Reply.{Reply}
use Rattle.posts.specs.declared.replies.TurnReplies.{TurnReplies}
use Rattle.posts.specs.Maps.{Map}
use Rattle.posts.specs.Posts.{post_count}
use Rattle.turn_core.specs.Words.{MapState, bare}
use Rattle.turn_core.specs.Turns.{standing, IsOneThread}
use Rattle.turn_core.specs.ReadyTurns.{Ready}
use Rattle.path_service.specs.machine.States.{State, Run}
use Rattle.path_service.specs.machine.Effects.{begun, first_list, joined_up}
use Rattle.path_service.specs.machine.Facts.{Facts}
use Rattle.path_service.specs.machine.Arrival.{answered_run}
use Rattle.path_service.specs.declared.runs.AnsweredRun.{AnsweredRun}
use Rattle.path_service.specs.declared.drivers.Driver.TheInside.{Inside}
use Rattle.path_service.specs.Services.{DriverState}
use Rattle.path_service.specs.Closings.{HasSent}
use Rattle.path_service.specs.inner.Channels.{posted_in, told_in, sent_in, ids_from, IsInRoom}
use Rattle.path_service.specs.inner.Running.{version_for_next, HoldsRunning}

-- how many of each list are before the pending ones
abbrev pub taken_before : List (List Post) → List (List Post) → List ℕ
taken_before [] all_pending = []
taken_before (posts ∷ posted) all_pending = (length posts - length (first_list all_pending)) ∷ taken_before posted (drop 1 all_pending)

-- what is pending is the last of each list
abbrev pub AreLast : List (List Post) → List (List Post) → Type 0
AreLast [] [] = Unit {0}
AreLast [] (pending ∷ all_pending) = ⊥
AreLast (posts ∷ posted) [] = ⊥
AreLast (posts ∷ posted) (pending ∷ all_pending) = ((front : List Post) × (front ++ pending ≡ posts)) × AreLast posted all_pending

-- the lists of each caller, followed by the replies to it in each turn
abbrev pub told_up : List (List Reply) → List TurnReplies → List (List Reply)
told_up lists [] = lists
told_up lists (told ∷ all) = told_up (joined_up lists told.replies) all

-- the turn that is ready, where there is one
abbrev pub turn_of : Option Ready → Option (List (List Post))
turn_of None = None
turn_of (Some ready) = Some ready.turn

-- the running turn: one whose jobs are answered, or one for whose answers there was no memory
abbrev pub run_of : Option AnsweredRun → Option (List (List Post)) → Option Run
run_of None None = None
run_of None (Some turn) = Some (begun turn)
run_of (Some run) broken = Some (answered_run run.posts run.answers.value)

-- the state of the turn machine with these parts
abbrev pub state_with : Map → List (List Post) → List (List Post) → Option (List (List Post)) → Option Run → List (List (List Post)) → List TurnReplies → State
state_with m posted all_pending staged running journal all = record {
  map = m;
  posted = posted;
  taken = taken_before posted all_pending;
  staged = staged;
  running = running;
  done = journal;
  replies = told_up (replicate m.callers []) all;
  collected = replicate m.callers 0;
}

-- the state of the turn machine that a driver stands for
abbrev pub machine_of : Inside → State
machine_of a = state_with a.map (posted_in a.channels.items) a.all_pending.items (turn_of a.staged) (run_of a.running a.broken) a.journal.items a.replies.items

-- the driver that is seen
abbrev pub driver_of : Inside → DriverState
driver_of a = record {
  machine = machine_of a;
  callers = ids_from 0 a.channels.items;
  told = told_in a.channels.items;
  sent = sent_in a.channels.items;
  failed = a.failed;
}

-- what is held of a turn that is ready on a version
pub record HoldsReady (version : MapState) (ready : Ready) : Type 0 where
  pub map : ready.map ≡ version.map
  pub before : ready.before ≡ version.standing
  pub few : post_count ready.turn ≤ MAX_STAGED_POSTS

abbrev pub HoldsStaged : MapState → Option Ready → Type 0
HoldsStaged version None = Unit {0}
HoldsStaged version (Some ready) = HoldsReady version ready

-- a turn whose answers were refused memory is held only by a driver that has failed
abbrev pub HoldsBroken : Bool → Option (List (List Post)) → Type 0
HoldsBroken failed None = Unit {0}
HoldsBroken failed (Some turn) = failed ≡ true

-- What holds of each driver. While it has not failed, the staged turn is ready on the version before it.
pub record HoldsDriver (a : Inside) : Type 0 where
  pub facts : Facts (machine_of a)
  pub map : a.version.map ≡ a.map
  pub standing : a.version.standing ≡ standing a.map bare a.journal.items
  pub answered : IsOneThread a.map a.journal.items a.replies.items
  pub running : HoldsRunning a.version a.running
  pub broken : HoldsBroken a.failed a.broken
  pub staged : a.failed ≡ false → HoldsStaged (version_for_next a.version a.running) a.staged
  pub last : AreLast (posted_in a.channels.items) a.all_pending.items
  pub few : post_count a.all_pending.items ≤ MAX_STAGED_POSTS
  pub room : All IsInRoom a.channels.items
  pub sent : HasSent (driver_of a) a.replies.items
