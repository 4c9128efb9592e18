use Rattle.script_text.proofs.GrammarPosts.{one_line}
use Rattle.script_text.proofs.laws.one_line.Goals as goal

pub returns : goal.returns
returns c version callers size d a b h k = one_line version callers size d a b h k
