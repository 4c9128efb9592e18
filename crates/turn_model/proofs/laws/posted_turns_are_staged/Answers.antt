use Rattle.path_service.proofs.machine.Reaching.{stage_step}
use Rattle.turn_model.proofs.laws.posted_turns_are_staged.Goals as goal

pub returns : goal.returns
returns c = stage_step
