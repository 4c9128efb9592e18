use Rattle.nav_types.specs.Numbering.{number_of}
use Rattle.grid_versions.proofs.ReacherLemmas.{unpainted_same}
use Rattle.grid_versions.proofs.painting.repainted_below.Goals as goal

pub paint_below-requires-clause-near : goal.paint_below-requires-clause-near
paint_below-requires-clause-near c =
    unpainted_same c.args.site.now.map.now c.args.site.now.shapes.now c.args.part (number_of c.args.paint.now.base.now)
    (number_of c.copy_rect.new.self) c.args.paint.now.near.now c.copy_rect.ensures.copied c.requires.near
