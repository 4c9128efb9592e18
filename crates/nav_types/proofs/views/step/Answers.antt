use Rattle.std.proofs.Common.{subst, sym}
use Rattle.nav_types.specs.declared.cells.Size.{Size}
use Rattle.nav_types.specs.Cells.{IsInside}
use Rattle.nav_types.proofs.views.step.Goals as goal

pub returns-in_default-clause-none : goal.returns-in_default-clause-none
returns-in_default-clause-none g c = λ next taken.
    let P = λ (size : Size). IsInside size next in
    c.in_default.ensures.none next taken.leads (subst P (sym c.size-size.ensures) (g.met.V.View.within c.args.view.now c.args.class next taken.next))
