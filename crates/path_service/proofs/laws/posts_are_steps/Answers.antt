use Rattle.path_service.proofs.CallerSteps.{posts_in_step}
use Rattle.path_service.proofs.laws.posts_are_steps.Goals as goal

pub returns : goal.returns
returns c = posts_in_step
