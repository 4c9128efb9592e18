use Rattle.script_text.proofs.CauseLemmas.{bad_end-cause}
use Rattle.script_text.proofs.laws.end_causes.Goals as goal

pub returns : goal.returns
returns c p = bad_end-cause p.part p
