use Rattle.std.proofs.Common.{sym, subst}
use Rattle.nav_types.specs.declared.cells.Size.{Size}
use Rattle.obstruction_shapes.specs.Shapes.{FitsMap}
use Rattle.grid_versions.proofs.standing_edits.reach_under.Goals as goal

pub reach_of-requires : goal.reach_of-requires
reach_of-requires c =
    let obstruction = c.in_ok-obstruction.obstruction.now in
    subst (λ (s : Size). FitsMap s obstruction.shape) (sym c.size.ensures)
    (c.requires.each c.args.id obstruction (sym c.in_ok-obstruction.ensures))
