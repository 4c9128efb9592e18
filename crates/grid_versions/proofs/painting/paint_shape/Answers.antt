use Rattle.std.proofs.Common.{List, IsTrue, sym, subst}
use Rattle.std.proofs.lemmas.Bool.{both_ways, false_from_ne_true}
use Rattle.nav_types.specs.declared.cells.Size.{Size}
use Rattle.nav_types.specs.Cells.{IsRectInside}
use Rattle.nav_types.specs.Numbering.{number_of}
use Rattle.class_config.specs.declared.table.PassabilityClass.{PassabilityClass}
use Rattle.clearance_raster.specs.Rasters.{blocks_class}
use Rattle.clearance_raster.proofs.Rastering.{part_none}
use Rattle.clearance_raster.proofs.Reaching.{inside_map}
use Rattle.grid_versions.proofs.painting.paint_shape.Goals as goal

pub returns-then-not-meets-clause-set : goal.returns-then-not-meets-clause-set
returns-then-not-meets-clause-set c =
    let part = c.args.part in
    let obstruction = c.args.obstruction.now in
    let here = subst (λ (s : Size). IsRectInside s part) (sym c.size.ensures) c.requires.inside in
    part_none c.args.patch.now.rect part _ (number_of c.args.patch.now) (λ k cell inside.
    false_from_ne_true (blocks_class obstruction c.args.map.now.classes k cell) (λ blocks.
    let reached = c.in-Some.ensures.blocked k cell (inside_map c.size.result part cell here inside)
    (subst (λ (table : List PassabilityClass). IsTrue (blocks_class obstruction table k cell)) (sym c.classes.ensures) blocks) in
    both_ways c.meets.result c.if-not-meets.true (c.meets.ensures.1 (cell, (reached, inside)))))
