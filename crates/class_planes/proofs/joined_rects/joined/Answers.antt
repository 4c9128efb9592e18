use Rattle.std.proofs.Common.{ℕ, ◌≡◌, ◌≢◌, List, get_or, sym, subst, ⊎_elim, arith, rules}
use Rattle.std.specs.Prelude.{All}
use Rattle.std.proofs.lemmas.Bool.{cases_eq}
use Rattle.std.proofs.lemmas.List.{get_or_default}
use Rattle.std.proofs.lemmas.List.Elements.{All-push, All-nil}
use Rattle.nav_types.specs.declared.cells.Rect.{Rect}
use Rattle.nav_types.specs.Cells.{IsInRect}
use Rattle.nav_types.proofs.Items.{all_front, all_last}
use Rattle.class_planes.specs.Planes.{IsOutside}
use Rattle.class_planes.specs.inner.StopLines.{IsRectOf}
use Rattle.class_planes.proofs.joined_rects.joined.Goals as goal

pub loop-rect-init : goal.loop-rect-init
loop-rect-init c = record {
  inside = λ count words all. (
    subst (All (IsRectOf count words)) (sym c.in_ok-fewer.ensures.items) (All-nil (IsRectOf count words)),
    let none : Rect = record { i0 = 0; j0 = 0; i1 = 0; j1 = 0 } in
        let first : IsRectOf count words (get_or c.args.rects.items 0 none) = all 0 none (omega (arith, c.if-len-lt2.false)) in
        search rules,
  );
  outside = λ cell out apart k d below. absurd (omega (arith, below));
}

pub loop-rect-preserved : goal.loop-rect-preserved
loop-rect-preserved c =
    let none : Rect = record { i0 = 0; j0 = 0; i1 = 0; j1 = 0 } in
    let rects : List Rect = c.deref-rect-items.result.now in
    let at : ℕ = c.loop-rect.rect-index in
    let here = c.loop-rect-test.true in
    record {
      inside = λ count words all.
          let so_far = c.loop-rect.invariant.inside count words all in
          let each = subst (All (IsRectOf count words)) (sym c.deref-rect-items.ensures.value) all in
          c.in_ok-last.ensures.inside count words so_far.0 so_far.1 (each at none here);
      outside = λ cell out apart k d below.
          let parts = c.in_ok-last.ensures.outside cell out apart in
          ⊎_elim
          (λ (same : k ≡ at).
          let not_next = subst (λ (r : Rect). ¬ IsInRect r cell) (get_or_default rects at none d here) parts.1.1 in
          subst (λ (rs : List Rect). ¬ IsInRect (get_or rs k d) cell) c.deref-rect-items.ensures.value
          (subst (λ (n : ℕ). ¬ IsInRect (get_or rects n d) cell) (sym same) not_next))
          (λ (other : k ≢ at). c.loop-rect.invariant.outside cell parts.0 parts.1.0 k d (omega (arith, below, other)))
          (cases_eq k at);
    }

pub returns-clause-inside : goal.returns-clause-inside
returns-clause-inside c count words all =
    let so_far = c.loop-rect.invariant.inside count words all in
    subst (All (IsRectOf count words)) (sym c.in_ok-push.ensures.items)
    (All-push (IsRectOf count words) c.loop-rect.fewer.items c.loop-rect.last so_far.0 so_far.1)

pub returns-clause-outside : goal.returns-clause-outside
returns-clause-outside c cell out k d below =
    let outside = subst (λ (rs : List Rect). IsOutside rs cell) c.in_ok-push.ensures.items out in
    let front = all_front (λ (r : Rect). ¬ IsInRect r cell) c.loop-rect.fewer.items c.loop-rect.last outside in
    let apart = all_last (λ (r : Rect). ¬ IsInRect r cell) c.loop-rect.fewer.items c.loop-rect.last outside in
    c.loop-rect.invariant.outside cell front apart k d (omega (arith, below, c.loop-rect-test.false))
