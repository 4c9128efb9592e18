use Rattle.turn_core.proofs.OneNote.{one_list_of_notes}
use Rattle.turn_core.proofs.request_laws.one_list_of_notes.Goals as goal

pub returns : goal.returns
returns c = one_list_of_notes
