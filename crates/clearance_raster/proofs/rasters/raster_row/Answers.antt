use Rattle.obstruction_shapes.specs.Blocking.{blocked}
use Rattle.clearance_raster.proofs.Rastering.{part_none, part_run, row_none}
use Rattle.clearance_raster.proofs.rasters.raster_row.Goals as goal

pub returns-in-Some-clause-set : goal.returns-in-Some-clause-set
returns-in-Some-clause-set g c =
    let number = g.C.Canvas.number in
    part_run (g.C.Canvas.rect_of c.args.canvas.now) c.args.part c.args.rect (number c.args.canvas.now) (number c.set_span.new.self) c.args.mask c.args.j
    c.in-Some.first c.in-Some.last (blocked c.args.grown.now.shape c.args.grown.now.clearance) c.requires.part c.requires.inside c.requires.south c.requires.north
    c.set_span.ensures.span c.set_span.ensures.others c.in-Some.ensures.run c.in-Some.ensures.within.0 c.in-Some.ensures.within.2 c.requires.reached

pub returns-in_default-clause-set : goal.returns-in_default-clause-set
returns-in_default-clause-set g c =
    part_none (g.C.Canvas.rect_of c.args.canvas.now) c.args.part _ (g.C.Canvas.number c.args.canvas.now)
    (row_none c.args.mask c.args.j c.args.part c.args.rect (blocked c.args.grown.now.shape c.args.grown.now.clearance) c.in_default.ensures.none c.requires.reached)
