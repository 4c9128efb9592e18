use Rattle.answer_laws.proofs.Telling.{numbers_of}
use Rattle.answer_laws.proofs.laws.each_turn_has_numbers.Goals as goal

pub returns : goal.returns
returns c = numbers_of
