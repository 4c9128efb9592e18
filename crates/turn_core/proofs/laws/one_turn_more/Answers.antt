use Rattle.turn_core.proofs.TurnByTurn.{told_more}
use Rattle.turn_core.proofs.laws.one_turn_more.Goals as goal

pub returns : goal.returns
returns c = told_more
