use Rattle.turn_core.proofs.Threads.{one_thread_lem}
use Rattle.turn_core.proofs.laws.one_list_of_replies.Goals as goal

pub returns : goal.returns
returns c = one_thread_lem
