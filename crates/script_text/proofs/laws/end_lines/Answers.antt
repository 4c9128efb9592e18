use Rattle.script_text.proofs.GrammarLines.{end-is, end-from}
use Rattle.script_text.proofs.laws.end_lines.Goals as goal

pub returns : goal.returns
returns c d turn = (end-is d turn, end-from d turn)
