use Rattle.script_text.proofs.TrueCauses.{strange_lines}
use Rattle.script_text.proofs.laws.strange_lines.Goals as goal

pub returns : goal.returns
returns c part turn d none = strange_lines part turn d none
