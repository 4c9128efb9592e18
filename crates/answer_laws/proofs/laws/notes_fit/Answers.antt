use Rattle.answer_laws.proofs.Limiting.{note_fits}
use Rattle.answer_laws.proofs.laws.notes_fit.Goals as goal

pub returns : goal.returns
returns c = note_fits
