use Rattle.path_service.proofs.machine.Keeping.{kept}
use Rattle.turn_model.proofs.laws.facts_are_kept.Goals as goal

pub returns : goal.returns
returns c = kept
