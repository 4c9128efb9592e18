use Rattle.goal_reach.proofs.Starting.{one_start}
use Rattle.goal_reach.proofs.laws.one_start_cell.Goals as goal

pub returns : goal.returns
returns c = one_start
