use Rattle.turn_core.proofs.Threads.{one_answer_list}
use Rattle.turn_core.proofs.laws.one_thread_answers_once.Goals as goal

pub returns : goal.returns
returns c = one_answer_list
