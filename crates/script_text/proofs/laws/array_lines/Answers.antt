use Rattle.script_text.proofs.ArrayLines.{array_lines}
use Rattle.script_text.proofs.laws.array_lines.Goals as goal

pub returns : goal.returns
returns c part turn d = array_lines part turn d
