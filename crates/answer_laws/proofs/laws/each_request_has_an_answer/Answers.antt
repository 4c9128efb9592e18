use Rattle.answer_laws.proofs.Requests.{answer_to}
use Rattle.answer_laws.proofs.Telling.{answers_to}
use Rattle.answer_laws.proofs.laws.each_request_has_an_answer.Goals as goal

pub returns-clause-one : goal.returns-clause-one
returns-clause-one c = answer_to

pub returns-clause-list : goal.returns-clause-list
returns-clause-list c = answers_to
