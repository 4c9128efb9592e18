use Rattle.turn_core.proofs.OneNote.{one_note_of}
use Rattle.turn_core.proofs.request_laws.one_note_of_a_request.Goals as goal

pub returns : goal.returns
returns c = one_note_of
