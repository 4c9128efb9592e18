use Rattle.answer_laws.proofs.Telling.{turn_told}
use Rattle.answer_laws.proofs.laws.each_turn_has_an_answer.Goals as goal

pub returns : goal.returns
returns c = turn_told
