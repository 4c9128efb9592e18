use Rattle.match_laws.proofs.TurnLines.{line_a_post, count_of_turn}
use Rattle.match_laws.proofs.lines.turns_have_a_line_a_post.Goals as goal

pub returns-clause-places : goal.returns-clause-places
returns-clause-places c = line_a_post

pub returns-clause-count : goal.returns-clause-count
returns-clause-count c = count_of_turn
