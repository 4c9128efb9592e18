use Rattle.flow_field.proofs.SameFields as law
use Rattle.flow_field.proofs.laws.one_next.Goals as goal

pub returns : goal.returns
returns c = law.one_next
