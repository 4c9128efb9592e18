use Rattle.turn_core.proofs.OneNote.{answers_tell_nothing}
use Rattle.turn_core.proofs.request_laws.answers_tell_nothing.Goals as goal

pub returns : goal.returns
returns c = answers_tell_nothing
