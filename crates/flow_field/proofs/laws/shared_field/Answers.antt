use Rattle.flow_field.proofs.SameFields as law
use Rattle.flow_field.proofs.laws.shared_field.Goals as goal

pub returns : goal.returns
returns c = law.shared_field
