use Rattle.turn_core.proofs.OneAnswer.{one_answer_to}
use Rattle.turn_core.proofs.laws.one_answer.Goals as goal

pub returns : goal.returns
returns c = one_answer_to
