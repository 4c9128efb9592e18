use Rattle.std.proofs.Common.{rules}
use Rattle.obstruction_shapes.specs.Blocking.{blocked}
use Rattle.obstruction_shapes.proofs.blocking.blocks.Goals as goal

pub returns : goal.returns
unfolding blocked
returns c = search rules
