use Rattle.turn_core.specs.Notes.{IsNote}
use Rattle.turn_core.proofs.solving.flow_of.Goals as goal

pub returns : goal.returns
unfolding IsNote
returns c =
    let noted = c.in_ok-noted.noted in
    (noted.note, ((noted.answer, (c.in_ok-noted.ensures.answered, c.in_ok-noted.ensures.told)), c.flow_in.ensures))
