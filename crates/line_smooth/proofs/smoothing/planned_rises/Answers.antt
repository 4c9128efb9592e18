use Rattle.std.proofs.Common.{ℕ, ◌≡◌, ◌+◌, ◌-◌, ◌<◌, List, length, set, sym, subst, arith, rules}
use Rattle.std.specs.Prelude.{slice_index}
use Rattle.std.proofs.lemmas.List.{get_or_read}
use Rattle.line_smooth.specs.inner.Plans.{AreHopsFrom, ArePlanned, IsBestNext}
use Rattle.line_smooth.proofs.Candidates.{hops_below, hops_more, rises_more}
use Rattle.line_smooth.proofs.smoothing.planned_rises.Goals as goal

pub best_next-next-requires-clause-hops : goal.best_next-next-requires-clause-hops
best_next-next-requires-clause-hops g c =
    let passes = g.V.View.passes c.args.view.now c.args.class in
    let places = c.args.places.now in
    let first : length places - c.loop-passed.passed ≡ length places - 1 - c.loop-passed.passed + 1 = omega (arith, c.loop-passed-test.true) in
    let P = λ (hops : List ℕ). AreHopsFrom passes places hops (length places - 1 - c.loop-passed.passed + 1) in
    let Q = λ (n : ℕ). AreHopsFrom passes places c.loop-passed.hops.items n in
    subst P (sym c.as_slice.ensures.value) (subst Q first c.loop-passed.invariant.known)

pub overflow_add-index : goal.overflow_add-index
overflow_add-index g c =
    let passes = g.V.View.passes c.args.view.now c.args.class in
    let places = c.args.places.now in
    let hops = c.loop-passed.hops.items in
    let next = c.best_next-next.result in
    let best = c.best_next-next.ensures.best in
    let up = best.rise.rises in let within = best.rise.within in
    let known = c.loop-passed.invariant.known in
    let covers = known.covers in
    let value = get_or_read hops next c.index.result.now (omega arith) c.index.ensures 0 in
    let below : next + slice_index hops next < length places =
    hops_below passes places next (slice_index hops next) (known.each next (omega (arith, c.loop-passed-test.true)) within) in
    let fits = c.best_next-next.type_inv in
    let wide : c.index.result.now + 1 < length places = omega arith in
    search rules

pub loop-passed-preserved : goal.loop-passed-preserved
loop-passed-preserved g c =
    let passes = g.V.View.passes c.args.view.now c.args.class in
    let places = c.args.places.now in
    let hops = c.loop-passed.hops.items in let rises = c.loop-passed.rises.items in
    let passed = c.loop-passed.passed in
    let from = length places - 1 - passed in
    let next = c.best_next-next.result in
    let first : length places - passed ≡ from + 1 = omega (arith, c.loop-passed-test.true) in
    let last : from ≡ length places - (passed + 1) = omega arith in
    let long : from + 1 < length places = omega (arith, c.loop-passed-test.true, c.loop-passed.auto.passed) in
    let P = λ (n : ℕ). AreHopsFrom passes places hops n in
    let Q = λ (n : ℕ). ArePlanned passes places rises n in
    let R = λ (table : List ℕ). IsBestNext passes places table from next in
    let known : AreHopsFrom passes places hops (from + 1) = subst P first c.loop-passed.invariant.known in
    let planned : ArePlanned passes places rises (from + 1) = subst Q first c.loop-passed.invariant.planned in
    let best : IsBestNext passes places hops from next = subst R c.as_slice.ensures.value c.best_next-next.ensures.best in
    let within = best.rise.within in let covers = known.covers in
    let value : c.index.result.now ≡ slice_index hops next = get_or_read hops next c.index.result.now (omega arith) c.index.ensures 0 in
    let S = λ (n : ℕ). AreHopsFrom passes places (set hops from (n + 1)) (length places - (passed + 1)) in
    let T = λ (n : ℕ). AreHopsFrom passes places (set hops from (slice_index hops next + 1)) n in
    let U = λ (n : ℕ). ArePlanned passes places (set rises from (next - from)) n in
    record {
      known = subst S (sym value) (subst T last (hops_more passes places hops from next known best long));
      planned = subst U last (rises_more passes places hops rises from next known planned best long);
      blocked = c.best_next-next.ensures.blocked;
    }
