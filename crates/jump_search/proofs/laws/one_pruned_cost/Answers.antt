use Rattle.jump_search.proofs.OneNumber.{one_cost}
use Rattle.jump_search.proofs.laws.one_pruned_cost.Goals as goal

pub returns : goal.returns
returns c = one_cost
