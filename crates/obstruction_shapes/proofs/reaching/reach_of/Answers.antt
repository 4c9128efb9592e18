use Rattle.std.proofs.Common.{arith}
use Rattle.obstruction_shapes.specs.Blocking.{reach}
use Rattle.obstruction_shapes.proofs.reaching.reach_of.Goals as goal

pub returns-clause-value : goal.returns-clause-value
unfolding reach
returns-clause-value c = grind arith
