use Rattle.answer_text.proofs.NotesOfNothing.{text_of_nothing}
use Rattle.answer_text.proofs.laws.notes_of_nothing.Goals as goal

pub returns : goal.returns
returns c = text_of_nothing
