use Rattle.answer_laws.proofs.Fields.{next_step, summary}
use Rattle.answer_laws.proofs.walking.fields_are_summed.Goals as goal

pub returns-clause-next : goal.returns-clause-next
returns-clause-next c = next_step

pub returns-clause-summary : goal.returns-clause-summary
returns-clause-summary c = summary
