use Rattle.answer_laws.proofs.Limiting.{numbers_fit}
use Rattle.answer_laws.proofs.laws.numbers_fit.Goals as goal

pub returns : goal.returns
returns c = numbers_fit
