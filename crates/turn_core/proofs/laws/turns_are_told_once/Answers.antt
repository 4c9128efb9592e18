use Rattle.turn_core.proofs.Threads.{one_turn_told}
use Rattle.turn_core.proofs.laws.turns_are_told_once.Goals as goal

pub returns : goal.returns
returns c = one_turn_told
