use Rattle.script_text.proofs.GrammarPosts.{post-is, post-from}
use Rattle.script_text.proofs.laws.post_lines.Goals as goal

pub returns : goal.returns
returns c version callers d said = (post-is version callers d said, post-from version callers d said)
