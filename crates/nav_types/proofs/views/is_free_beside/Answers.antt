use Rattle.std.proofs.Common.{subst, sym}
use Rattle.std.proofs.lemmas.Bool.{false≢true}
use Rattle.nav_types.specs.declared.cells.Size.{Size}
use Rattle.nav_types.specs.Cells.{IsInside}
use Rattle.nav_types.proofs.views.is_free_beside.Goals as goal

pub returns-in-None : goal.returns-in-None
returns-in-None g c =
    let P = λ (next : _) (size : Size). IsInside size next in (
      (λ wrong. absurd (false≢true wrong)),
      (λ free. absurd (c.in-None.ensures.none free.0 free.1.0
          (subst (P free.0) (sym c.size.ensures) (g.met.V.View.within c.args.view.now c.args.class free.0 free.1.1)))),
    )
