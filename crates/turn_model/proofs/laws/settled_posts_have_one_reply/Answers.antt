use Rattle.path_service.proofs.machine.Settling.{settled}
use Rattle.turn_model.proofs.laws.settled_posts_have_one_reply.Goals as goal

pub returns : goal.returns
returns c = settled
