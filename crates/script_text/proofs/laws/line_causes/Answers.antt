use Rattle.script_text.proofs.CauseLemmas.{bad_line-cause}
use Rattle.script_text.proofs.laws.line_causes.Goals as goal

pub returns : goal.returns
returns c p line = bad_line-cause p.part p line
