use Rattle.match_laws.proofs.TurnLines.{out_ended, out_count}
use Rattle.match_laws.proofs.lines.outputs_are_lines.Goals as goal

pub returns-clause-ended : goal.returns-clause-ended
returns-clause-ended c = out_ended

pub returns-clause-count : goal.returns-clause-count
returns-clause-count c = out_count
