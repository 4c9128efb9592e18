use Rattle.script_text.proofs.BlankLines.{blank_lines}
use Rattle.script_text.proofs.laws.blank_lines.Goals as goal

pub returns : goal.returns
returns c part turn line = blank_lines part turn line
