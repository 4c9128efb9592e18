use Rattle.answer_laws.proofs.Telling.{one_thread_told}
use Rattle.answer_laws.proofs.laws.each_journal_has_an_answer.Goals as goal

pub returns : goal.returns
returns c = one_thread_told
