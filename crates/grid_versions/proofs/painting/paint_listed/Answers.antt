use Rattle.std.proofs.Common.{sym}
use Rattle.nav_types.specs.Numbering.{number_of}
use Rattle.clearance_raster.specs.Rasters.{blocks_class}
use Rattle.clearance_raster.proofs.Rastering.{part_alike, part_none}
use Rattle.grid_versions.specs.inner.Reachers.{blocks_under}
use Rattle.grid_versions.proofs.ReacherLemmas.{under_found, under_none}
use Rattle.grid_versions.proofs.painting.paint_listed.Goals as goal

pub paint_shape-requires-clause-fits : goal.paint_shape-requires-clause-fits
paint_shape-requires-clause-fits c =
    c.requires.fit.each c.args.id c.in-Some.obstruction.now (sym c.in-Some.ensures)

pub returns-in-Some-clause-set : goal.returns-in-Some-clause-set
returns-in-Some-clause-set c =
    let map = c.args.site.now.map.now in
    let standing = c.args.site.now.shapes.now in
    let id = c.args.id in
    let obstruction = c.in-Some.obstruction.now in
    part_alike c.args.patch.now.rect c.args.part (blocks_class obstruction map.classes)
    (λ k cell. blocks_under map standing k cell id) (number_of c.args.patch.now) (number_of c.paint_shape.new.patch)
    (λ k cell inside. sym (under_found map standing k cell id obstruction (sym c.in-Some.ensures)))
    c.paint_shape.ensures.set

pub returns-in_default-clause-set : goal.returns-in_default-clause-set
returns-in_default-clause-set c =
    let map = c.args.site.now.map.now in
    let standing = c.args.site.now.shapes.now in
    let id = c.args.id in
    part_none c.args.patch.now.rect c.args.part (λ k cell. blocks_under map standing k cell id)
    (number_of c.args.patch.now) (λ k cell inside. under_none map standing k cell id (sym c.in_default.ensures))
