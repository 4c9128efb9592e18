use Rattle.script_text.specs.declared.causes.Cause.TheVariants.{WrongValue}
use Rattle.script_text.proofs.TrueCauses.{true_causes}
use Rattle.script_text.proofs.laws.wrong_values.Goals as goal

pub returns : goal.returns
returns c part turn d key wanted e = true_causes part turn d (WrongValue key wanted) e
