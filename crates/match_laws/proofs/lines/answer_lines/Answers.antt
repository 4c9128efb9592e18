use Rattle.match_laws.proofs.TurnLines.{answers_in_lines}
use Rattle.match_laws.proofs.lines.answer_lines.Goals as goal

pub returns : goal.returns
returns c = answers_in_lines
