use Rattle.script_text.proofs.GrammarLines.{base-is, base-from}
use Rattle.script_text.proofs.laws.base_lines.Goals as goal

pub returns : goal.returns
returns c size d rects = (base-is size d rects, base-from size d rects)
