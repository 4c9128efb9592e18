use Rattle.turn_core.proofs.TurnByTurn.{by_place}
use Rattle.turn_core.proofs.request_laws.answers_by_place.Goals as goal

pub returns : goal.returns
returns c = by_place
