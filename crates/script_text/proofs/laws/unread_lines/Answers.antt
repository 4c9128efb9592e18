use Rattle.script_text.proofs.TrueBytes.{unread_lines}
use Rattle.script_text.proofs.laws.unread_lines.Goals as goal

pub returns : goal.returns
returns c part turn line found unread e = unread_lines part turn line found unread e
