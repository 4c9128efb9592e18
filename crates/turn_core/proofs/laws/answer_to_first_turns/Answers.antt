use Rattle.turn_core.proofs.Threads.{answer_front}
use Rattle.turn_core.proofs.laws.answer_to_first_turns.Goals as goal

pub returns : goal.returns
returns c = answer_front
