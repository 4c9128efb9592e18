use Rattle.turn_core.proofs.OneNote.{notes_by_place}
use Rattle.turn_core.proofs.request_laws.notes_by_place.Goals as goal

pub returns : goal.returns
returns c = notes_by_place
