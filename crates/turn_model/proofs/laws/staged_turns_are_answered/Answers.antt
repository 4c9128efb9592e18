use Rattle.path_service.proofs.machine.Reaching.{turn_answered}
use Rattle.turn_model.proofs.laws.staged_turns_are_answered.Goals as goal

pub returns : goal.returns
returns c = turn_answered
