use Rattle.path_service.proofs.machine.Reaching.{run-append}
use Rattle.turn_model.proofs.laws.runs_join.Goals as goal

pub returns : goal.returns
returns c = run-append
