-- What is held of the running turn.
use Rattle.std.specs.Prelude.{◌≡◌, Option, None, Some}
use Rattle.posts.specs.Posts.{jobs}
use Rattle.turn_core.specs.Solving.{AreAnswersTo}
use Rattle.turn_core.specs.Words.{MapState}
use Rattle.turn_core.specs.Turns.{after_turn, IsTurnTold}
use Rattle.path_service.specs.declared.runs.AnsweredRun.{AnsweredRun}

-- what is held of a running turn on the version before it
pub record HoldsRun (version : MapState) (run : AnsweredRun) : Type 0 where
  pub answers : AreAnswersTo version.map (after_turn version.map version.standing run.posts) (jobs run.posts) run.answers.value
  pub told : IsTurnTold version.map version.standing run.posts run.replies
  pub map : run.after.map ≡ version.map
  pub standing : run.after.standing ≡ after_turn version.map version.standing run.posts

abbrev pub HoldsRunning : MapState → Option AnsweredRun → Type 0
HoldsRunning version None = Unit {0}
HoldsRunning version (Some run) = HoldsRun version run

-- the version on which the next turn stands: the one after the running turn, where there is one
abbrev pub version_for_next : MapState → Option AnsweredRun → MapState
version_for_next version None = version
version_for_next version (Some run) = run.after
