use Rattle.answer_laws.proofs.Bounding.{answer_fits}
use Rattle.answer_laws.proofs.laws.answers_fit.Goals as goal

pub returns : goal.returns
returns c = answer_fits
