use Rattle.std.proofs.Common.{◌≡◌, ◌<◌, ◌≤◌, ◌+◌, ◌-◌, ◌∙◌, take, inl, inr, ap, refl, sym, subst, arith}
use Rattle.std.specs.Prelude.{slice_index}
use Rattle.std.proofs.lemmas.Bool.{cases_lt}
use Rattle.std.proofs.lemmas.Option.{same_Some}
use Rattle.chunk_regions.specs.declared.spans.Span.{Span}
use Rattle.chunk_regions.specs.declared.label_spans.Place.{Place}
use Rattle.chunk_regions.specs.inner.Joining.{AreGrown, AreUnited, KeepsGroups, Reach}
use Rattle.chunk_regions.proofs.SpanLemmas.{starts_rise}
use Rattle.chunk_regions.proofs.GroupLemmas.{Reach-from}
use Rattle.chunk_regions.proofs.label_spans.number_row.Goals as goal

pub loop-at-init : goal.loop-at-init
loop-at-init c =
    let runs = c.args.rows.now in
    let row = c.args.row in
    let here = c.requires.here in
    let start = c.requires.start in
    let south = c.requires.south in
    let to : row - 1 + (row - (row - 1)) ≡ row = omega arith in
    let rise = subst (λ k. slice_index runs.starts (row - 1) ≤ slice_index runs.starts k) to (starts_rise runs c.start-end.ensures.are (row - 1) (row - (row - 1)) (omega arith)) in
    record {
      room = refl;
      grown = c.requires.grown;
      united = c.requires.united;
      from = omega (arith, south);
      to = omega (arith, south, start, rise);
      passed = λ s n o in_row at.
          let rows = o.rows in
          let one : s.row ≡ row - 1 = omega arith in
          let from = subst (λ r. slice_index runs.starts r ≤ s.at) one o.south_is.from in
          omega (arith, south, from);
      groups = λ passes cut groups. groups;
    }

pub first_reaching-reached-requires-clause-order : goal.first_reaching-reached-requires-clause-order
first_reaching-reached-requires-clause-order c = c.loop-at.invariant.to

pub number_span-requires-clause-from : goal.number_span-requires-clause-from
number_span-requires-clause-from c =
    let from = c.loop-at.invariant.from in
    let later = c.first_reaching-reached.ensures.from in
    omega (arith, from, later)

pub number_span-requires-clause-reach : goal.number_span-requires-clause-reach
number_span-requires-clause-reach c = λ span found.
    let runs = c.args.rows.now in
    let start = c.requires.start in
    let from = c.loop-at.invariant.from in
    let later = c.first_reaching-reached.ensures.from in
    let south = c.first_reaching-reached.result in
    let one : span.first ≡ c.span.result.first = ap (λ (s : Span). s.first) (same_Some span c.span.result (sym found ∙ c.span.ensures.value)) in
    subst (λ k. Reach runs span.first south k) (sym start)
    (Reach-from runs c.start-end.ensures.are c.args.row south span.first c.requires.here (omega arith)
    (λ low below found_low. let reach = c.first_reaching-reached.ensures.reaches low (omega arith) found_low in omega arith))

pub number_span-requires-clause-passed : goal.number_span-requires-clause-passed
number_span-requires-clause-passed c = λ s o.
    let place : Place = record { row = c.args.row; at = c.loop-at.at } in
    let old = c.loop-at.invariant.passed s place o refl (omega arith) in
    let one : o.high.first ≡ c.span.result.first = ap (λ (s : Span). s.first) (same_Some o.high c.span.result (sym o.found_high ∙ c.span.ensures.value)) in
    let east = o.east in
    elim (cases_lt s.at c.first_reaching-reached.result) [
      | inl less ↦ let short = c.first_reaching-reached.ensures.short s.at o.low old less o.found_low in absurd (omega arith)
      | inr more ↦ more
    ]

pub loop-at-preserved : goal.loop-at-preserved
loop-at-preserved c =
    let kept = c.loop-at.invariant in
    let runs = c.args.rows.now in
    let row = c.args.row in
    let at = c.loop-at.at in
    let low = c.loop-at.auto.at in
    let start = c.requires.start in
    let from = kept.from in
    let later = c.first_reaching-reached.ensures.from in
    let rises = c.span.ensures.ordered in
    record {
      room = c.number_span.ensures.length ∙ kept.room;
      grown = c.in_ok-number_span.ensures.grown;
      united = c.in_ok-number_span.ensures.united;
      from = omega arith;
      to = c.first_reaching-reached.ensures.to;
      passed = λ s n o in_row next.
          let old = kept.passed s n o in_row (omega arith) in
          let east = o.east in
          let to = subst (λ r. n.at < slice_index runs.starts (r + 1)) in_row o.north_is.to in
          let gap = c.start-end.ensures.are.apart row at n.at c.span.result o.high c.requires.here (omega arith) (omega arith) to c.span.ensures.value o.found_high in
          elim (cases_lt s.at c.first_reaching-reached.result) [
            | inl less ↦ let short = c.first_reaching-reached.ensures.short s.at o.low old less o.found_low in absurd (omega arith)
            | inr more ↦ more
          ];
      groups = λ passes cut groups. c.in_ok-number_span.ensures.groups passes cut (kept.groups passes cut groups);
    }

pub returns-clause-united : goal.returns-clause-united
returns-clause-united c =
    let runs = c.args.rows.now in
    let rising = c.start-end.ensures.are.rising c.args.row c.requires.here in
    let past : c.loop-at.at ≡ c.start-end.result =
    omega (arith, rising, c.requires.start, c.start-end.ensures.value, c.loop-at-test.false, c.loop-at.auto.at-end) in
    subst (λ k. AreUnited runs (take k c.loop-at.all.regions.items) c.loop-at.all.links.items k) past c.loop-at.invariant.united

pub returns-clause-grown : goal.returns-clause-grown
returns-clause-grown c =
    let rising = c.start-end.ensures.are.rising c.args.row c.requires.here in
    let past : c.loop-at.at ≡ c.start-end.result =
    omega (arith, rising, c.requires.start, c.start-end.ensures.value, c.loop-at-test.false, c.loop-at.auto.at-end) in
    let all = c.loop-at.all in
    subst (λ k. AreGrown (take k all.regions.items) all.firsts.items all.links.items) past c.loop-at.invariant.grown

pub returns-clause-groups : goal.returns-clause-groups
returns-clause-groups c =
    let rising = c.start-end.ensures.are.rising c.args.row c.requires.here in
    let past : c.loop-at.at ≡ c.start-end.result =
    omega (arith, rising, c.requires.start, c.start-end.ensures.value, c.loop-at-test.false, c.loop-at.auto.at-end) in
    let old = c.args.all.now in
    let all = c.loop-at.all in
    subst (λ k. KeepsGroups c.args.chunk c.args.rows.now (take c.args.start old.regions.items) old.firsts.items old.links.items (take k all.regions.items) all.firsts.items all.links.items)
    past c.loop-at.invariant.groups
