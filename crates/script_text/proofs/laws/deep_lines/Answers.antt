use Rattle.script_text.proofs.BlankLines.{deep_lines}
use Rattle.script_text.proofs.laws.deep_lines.Goals as goal

pub returns : goal.returns
returns c part turn line = deep_lines part turn line
