use Rattle.std.proofs.Common.{arith}
use Rattle.nav_types.specs.Lines.{cell_on}
use Rattle.goal_reach.proofs.Running.{in_run, next_is_free, run_goes_on, run_adds}
use Rattle.goal_reach.proofs.rings.best_in_run.Goals as goal

pub best_from-stretch-requires-clause-inside : goal.best_from-stretch-requires-clause-inside
best_from-stretch-requires-clause-inside g c = λ cell it. (
    let rank = g.C.Choice.rank_of c.args.choice.now in let offered = g.C.Choice.offered c.args.choice.now in
    let its = c.args in let begun = c.run.invariant.first in
    let gone = run_goes_on rank offered its.axis its.line its.from c.run.place its.end c.next_along.result c.min-place.result c.cell_on.result c.run.best
    c.run-test.true c.cell_on.ensures c.min-place.ensures c.next_along.ensures.reached c.next_along.ensures.none c.run.invariant.best in
    let order = gone.0 in let first = it.first in
    c.requires.inside cell (record { on_line = it.on_line; first = omega arith; past = it.past }))

pub best_from-stretch-requires-clause-free : goal.best_from-stretch-requires-clause-free
best_from-stretch-requires-clause-free g c =
    let it = c.args in let begun = c.run.invariant.first in
    next_is_free (g.C.Choice.free it.choice.now) it.axis it.line c.run.place it.end c.next_along.result c.min-place.result (g.C.Choice.extent it.choice.now)
    c.cell_on.result c.cell_on.ensures c.min-place.ensures c.if-place-end.true
    (λ k at before. c.requires.inside (cell_on it.axis it.line k) (in_run it.axis it.line it.from it.end k (omega arith) before))
    c.next_along.ensures.reached c.next_along.ensures.free

pub run-preserved-then-place-end : goal.run-preserved-then-place-end
run-preserved-then-place-end g c =
    let rank = g.C.Choice.rank_of c.args.choice.now in let offered = g.C.Choice.offered c.args.choice.now in
    let it = c.args in let place = c.min-place.result in let first = c.run.invariant.first in
    let stretch = c.best_from-stretch.ensures in let begun = stretch.begun in
    let gone = run_goes_on rank offered it.axis it.line it.from c.run.place it.end c.next_along.result place c.cell_on.result c.run.best
    c.run-test.true c.cell_on.ensures c.min-place.ensures c.next_along.ensures.reached c.next_along.ensures.none c.run.invariant.best in
    let order = gone.0 in
    record {
      first = omega arith;
      past = stretch.within;
      best = run_adds rank offered it.axis it.line it.from place c.best_from-stretch.result.past c.run.best c.best_from-stretch.result.best c.better-best.result
          (omega arith) (omega arith) gone.2 stretch.best c.better-best.ensures.one c.better-best.ensures.first c.better-best.ensures.second;
    }

pub run-preserved : goal.run-preserved
run-preserved g c =
    let it = c.args in let first = c.run.invariant.first in
    let gone = run_goes_on (g.C.Choice.rank_of it.choice.now) (g.C.Choice.offered it.choice.now) it.axis it.line it.from c.run.place it.end
    c.next_along.result c.min-place.result c.cell_on.result c.run.best
    c.run-test.true c.cell_on.ensures c.min-place.ensures c.next_along.ensures.reached c.next_along.ensures.none c.run.invariant.best in
    let order = gone.0 in
    record { first = omega arith; past = gone.1; best = gone.2 }
