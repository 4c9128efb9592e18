use Rattle.answer_laws.proofs.Noting.{note_to, notes_to}
use Rattle.answer_laws.proofs.laws.each_request_has_a_note.Goals as goal

pub returns-clause-one : goal.returns-clause-one
returns-clause-one c = note_to

pub returns-clause-list : goal.returns-clause-list
returns-clause-list c = notes_to
