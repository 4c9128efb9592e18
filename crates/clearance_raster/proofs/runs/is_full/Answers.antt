use Rattle.obstruction_shapes.proofs.Runs.{blocked_between}
use Rattle.clearance_raster.proofs.runs.is_full.Goals as goal

pub returns-in-Unit : goal.returns-in-Unit
returns-in-Unit c both i west east =
    blocked_between c.args.shape.now c.args.clearance c.args.rect.i0 i c.args.rect.i1 c.args.j west east
    (c.has_both_ends.ensures.first both) (c.has_both_ends.ensures.last both)
