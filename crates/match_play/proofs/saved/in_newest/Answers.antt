use Rattle.std.proofs.Common.{ℕ, List, All, arith, subst, sym}
use Rattle.nav_types.specs.Cells.{IsRectInside}
use Rattle.nav_types.specs.declared.cells.Rect.{Rect}
use Rattle.nav_types.specs.declared.cells.Size.{Size}
use Rattle.match_play.proofs.Saving.{not_none}
use Rattle.match_play.proofs.saved.in_newest.Goals as goal

pub unreachable-requires : goal.unreachable-requires
unreachable-requires c =
    not_none c.new.result (c.new.ensures.some.1 (record {
      oldest = omega arith;
      newest = omega arith;
      some_caller = c.callers.ensures.limits.0;
      few_callers = c.callers.ensures.limits.1;
      base_inside = subst (λ (its : Size × List (Rect × ℕ)). All (λ (entry : Rect × ℕ). IsRectInside its.0 entry.0) its.1)
          (λ i. (sym c.size.ensures i, sym c.in_ok-base.ensures i)) c.base.ensures.inside;
    })) c.in-None.is
