use Rattle.turn_core.proofs.OneAnswer.{one_answers}
use Rattle.turn_core.proofs.request_laws.one_list_of_answers.Goals as goal

pub returns : goal.returns
returns c = one_answers
