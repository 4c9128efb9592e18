use Rattle.path_service.proofs.machine.Keeping.{facts_at_opening}
use Rattle.turn_model.proofs.laws.facts_hold_at_opening.Goals as goal

pub returns : goal.returns
returns c = facts_at_opening
