use Rattle.obstruction_shapes.proofs.Runs.{blocked_between}
use Rattle.obstruction_shapes.proofs.laws.blocked_cells_are_one_run.Goals as goal

pub returns : goal.returns
returns c = blocked_between
