use Rattle.path_service.proofs.machine.Reaching.{deliver_step}
use Rattle.turn_model.proofs.laws.answered_turns_are_delivered.Goals as goal

pub returns : goal.returns
returns c = deliver_step
