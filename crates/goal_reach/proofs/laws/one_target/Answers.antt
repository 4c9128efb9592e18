use Rattle.goal_reach.proofs.Targeting.{one_target}
use Rattle.goal_reach.proofs.laws.one_target.Goals as goal

pub returns : goal.returns
returns c = one_target
