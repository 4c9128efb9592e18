use Rattle.path_service.proofs.machine.Reaching.{all_post}
use Rattle.turn_model.proofs.laws.lists_are_posted.Goals as goal

pub returns : goal.returns
returns c = all_post
