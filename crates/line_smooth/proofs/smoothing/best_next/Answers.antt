use Rattle.std.specs.Prelude.{slice_index}
use Rattle.std.proofs.Common.{ℕ, ◌<◌, ◌∙◌, rules, ◌+◌, ◌-◌, sym, subst, arith, length}
use Rattle.std.proofs.lemmas.Bool.{both_ways}
use Rattle.line_smooth.specs.inner.Plans.{IsBlocking}
use Rattle.line_smooth.proofs.Candidates.{hops_below, place_inside, clear_between, clear_cells, IsBestSoFar, candidate_kept, candidate_taken}
use Rattle.line_smooth.proofs.smoothing.best_next.Goals as goal
use Rattle.line_smooth.proofs.smoothing.best_next.Goals.{then-hops-at+then-is_clear, else-hops-at, else-hops-at-via-then-hops-at+else-is_clear, else-hops-at-via-else-hops-at}

pub overflow_add-bound : goal.overflow_add-bound
overflow_add-bound g c =
    let passes = g.V.View.passes c.args.view.now c.args.class in
    let below : c.args.from + 1 + slice_index c.args.hops.now (c.args.from + 1) < length c.args.places.now =
    hops_below passes c.args.places.now (c.args.from + 1) _ (c.requires.hops.each (c.args.from + 1) (omega arith) c.requires.from) in
    search rules

pub is_clear-requires-clause-from : goal.is_clear-requires-clause-from
is_clear-requires-clause-from g c =
    place_inside (g.V.View.passes c.args.view.now c.args.class) (g.V.View.extent c.args.view.now) c.args.places.now (g.met.V.View.within c.args.view.now c.args.class)
    c.requires.legs c.args.from _ (omega (arith, c.requires.from)) (omega (arith, c.requires.from))

pub is_clear-requires-clause-to : goal.is_clear-requires-clause-to
is_clear-requires-clause-to g c =
    place_inside (g.V.View.passes c.args.view.now c.args.class) (g.V.View.extent c.args.view.now) c.args.places.now (g.met.V.View.within c.args.view.now c.args.class)
    c.requires.legs c.candidates.at _ (omega (arith, c.requires.from)) c.candidates.invariant.best.within

pub candidates-preserved : goal.candidates-preserved
candidates-preserved g c =
    let passes = g.V.View.passes c.args.view.now c.args.class in
    let places = c.args.places.now in let hops = c.args.hops.now in
    let from = c.args.from in let at = c.candidates.at in
    let so_far = c.candidates.invariant.best in
    let P = λ (n : ℕ). IsBestSoFar passes places hops from n c.if-hops-at.bound (at - 1) in
    elim c.if-hops-at.branch [
      | then-hops-at+then-is_clear w ↦ record {
        best =
            (let R = λ (b : ℕ). IsBestSoFar passes places hops from at b (at - 1) in
            subst P (sym w.next-is) (subst R (sym w.bound-is)
            (candidate_taken passes places hops from c.candidates.next c.candidates.bound at so_far c.candidates-test.true w.if-hops-at.true
            (clear_between passes places from at _ (w.is_clear.ensures.clear.0 w.if-is_clear.true)))));
        blocked = (let S = IsBlocking passes in subst S (sym w.blocked-is) w.is_clear.ensures.blocked);
      }
      | else-hops-at w ↦
          let R = λ (b : ℕ). IsBestSoFar passes places hops from c.candidates.next b (at - 1) in
          let S = IsBlocking passes in
          let kept = candidate_kept passes places hops from c.candidates.next c.candidates.bound at so_far c.candidates-test.true in
          elim w.else-hops-at.branch [
            | else-hops-at-via-then-hops-at+else-is_clear v ↦ record {
              best = subst P (sym w.next-is) (subst R (sym w.bound-is) (kept
                  (λ rise. absurd (both_ways _ v.if-is_clear.false (v.is_clear.ensures.clear.1
                  (clear_cells passes places from at _ (omega (arith, c.requires.from)) so_far.within rise.clear))))));
              blocked = subst S (sym (w.blocked-is ∙ v.blocked-is)) v.is_clear.ensures.blocked;
            }
            | else-hops-at-via-else-hops-at v ↦ record {
              best = subst P (sym w.next-is) (subst R (sym w.bound-is) (kept (λ rise. v.if-hops-at.false)));
              blocked = subst S (sym (w.blocked-is ∙ v.blocked-is)) c.candidates.invariant.blocked;
            }
          ]
    ]
