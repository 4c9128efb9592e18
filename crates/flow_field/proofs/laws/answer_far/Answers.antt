use Rattle.flow_field.proofs.SameFields as law
use Rattle.flow_field.proofs.laws.answer_far.Goals as goal

pub returns : goal.returns
returns c = law.answer_far
