use Rattle.path_service.proofs.CallerSteps.{collects_in_step}
use Rattle.path_service.proofs.laws.collected_replies_are_steps.Goals as goal

pub returns : goal.returns
returns c = collects_in_step
