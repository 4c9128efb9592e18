use Rattle.script_text.proofs.TrueCauses.{true_causes}
use Rattle.script_text.proofs.laws.true_causes.Goals as goal

pub returns : goal.returns
returns c part turn d found e = true_causes part turn d found e
