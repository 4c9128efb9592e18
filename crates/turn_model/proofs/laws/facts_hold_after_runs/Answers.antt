use Rattle.path_service.proofs.machine.Keeping.{kept_run_of}
use Rattle.turn_model.proofs.laws.facts_hold_after_runs.Goals as goal

pub returns : goal.returns
returns c = kept_run_of
