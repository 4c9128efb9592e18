use Rattle.std.proofs.Common.{◌∙◌, sym, subst, IsTrue}
use Rattle.std.proofs.lemmas.Bool.{both_ways}
use Rattle.nav_types.specs.declared.cells.Cell.{Cell}
use Rattle.goal_shapes.specs.Goals.{contains}
use Rattle.goal_reach.proofs.Joining.{barred}
use Rattle.goal_reach.proofs.Stretching.{row_missed}
use Rattle.goal_reach.proofs.reaching.AreaCells.is_row_missed.Goals as goal

pub returns : goal.returns
returns g c = λ missed cell row begun ended hit.
    let it = c.args.self.now in
    row_missed it.goal.now c.args.j it.frame.i0 it.frame.i1 cell (sym c.is_inside_out.ensures ∙ c.if-not-is_inside_out.false)
    (λ here. both_ways c.contains.result c.if-contains.false (c.contains.ensures ∙ subst (λ (d : Cell). IsTrue (contains it.goal.now d)) (sym c.new-first.ensures) here))
    (λ there. barred c.contains-2.result missed (c.contains-2.ensures ∙ subst (λ (d : Cell). IsTrue (contains it.goal.now d)) (sym c.new-last.ensures) there))
    row begun ended hit
