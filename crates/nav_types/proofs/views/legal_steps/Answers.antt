use Rattle.std.proofs.Common.{IsTrue, ◌∙◌, sym}
use Rattle.nav_types.proofs.DirSetLemmas.{legal_of_free}
use Rattle.nav_types.proofs.views.legal_steps.Goals as goal

pub returns-then-passable : goal.returns-then-passable
returns-then-passable g c = λ dir.
    let passes = g.V.View.passes c.args.view.now c.args.class in
    let here : IsTrue (passes c.args.cell) = sym c.passable.ensures ∙ c.if-passable.true in
    let legal = legal_of_free passes c.args.cell c.free_beside.result dir here c.free_beside.ensures in
    ((λ held. legal.0 (sym (c.with_parts.ensures dir) ∙ held)), (λ step. c.with_parts.ensures dir ∙ legal.1 step))
