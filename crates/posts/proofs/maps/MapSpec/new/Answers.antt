use Rattle.std.proofs.Common.{List, All, IsTrue, ℕ, sym, subst}
use Rattle.nav_types.specs.declared.cells.Rect.{Rect}
use Rattle.nav_types.specs.Cells.{IsRectInside}
use Rattle.posts.proofs.maps.MapSpec.new.Goals as goal

pub returns-then-not-are_inside-clause-some : goal.returns-then-not-are_inside-clause-some
returns-then-not-are_inside-clause-some c = (
  λ no. absurd (cc),
  λ is.
      let inside : IsTrue c.are_inside.result = c.are_inside.ensures.1
      (subst (λ (xs : List (Rect × ℕ)). All (λ (entry : Rect × ℕ). IsRectInside c.args.size entry.0) xs) (sym c.as_slice.ensures) is.base_inside) in
      absurd (cc),
)
