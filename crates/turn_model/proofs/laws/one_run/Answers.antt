use Rattle.path_service.proofs.machine.OneRun.{one_replies, one_state}
use Rattle.turn_model.proofs.laws.one_run.Goals as goal

pub returns-clause-replies : goal.returns-clause-replies
returns-clause-replies c = one_replies

pub returns-clause-state : goal.returns-clause-state
returns-clause-state c = one_state
