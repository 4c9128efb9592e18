-- What the machine of the code holds, and the state that it stands for.
use Rattle.std.specs.Prelude.{◌≡◌, Option, None, Some, [], replicate}
use Rattle.turn_model.specs.declared.machines.running.RunningTurn.{RunningTurn}
use Rattle.turn_model.specs.declared.machines.Machine.TheInside.{Inside}
use Rattle.turn_core.specs.Words.{MapState, bare}
use Rattle.turn_core.specs.Turns.{standing}
use Rattle.path_service.specs.machine.States.{State}
use Rattle.turn_model.specs.inner.Runs.{option_run_of, option_posts_of, version_for_next, posts_in, gathered, IsHeldOn, IsReadyOn}
use Rattle.turn_model.specs.inner.Runs.{HaveCome}

-- the state that the machine stands for
abbrev pub state_of : Inside → State
state_of a = record {
  map = a.version.map;
  posted = a.posted.items;
  taken = a.taken.items;
  staged = option_posts_of a.staged;
  running = option_run_of a.running;
  done = posts_in a.delivered.items;
  replies = gathered (replicate a.version.map.callers []) a.delivered.items;
  collected = a.collected.items;
}

-- what is held of the running turn, where there is one
abbrev pub HoldsRun : MapState → Option RunningTurn → Type 0
HoldsRun version None = Unit {0}
HoldsRun version (Some held) = IsHeldOn version held

-- what is held of the staged turn, where there is one
abbrev pub HoldsStaged : MapState → Option RunningTurn → Type 0
HoldsStaged version None = Unit {0}
HoldsStaged version (Some held) = IsReadyOn version held

-- the version that is held is the one after the turns delivered, the staged turn is ready to run on the next one, and
-- each caller has come to its place
pub record HoldsState (a : Inside) : Type 0 where
  pub standing : a.version.standing ≡ standing a.version.map bare (posts_in a.delivered.items)
  pub running : HoldsRun a.version a.running
  pub staged : HoldsStaged (version_for_next a.version a.running) a.staged
  pub come : HaveCome a.delivered.items a.collected.items a.places.items
