use Rattle.std.proofs.lemmas.Bool.{both_ways}
use Rattle.jump_scan.specs.Stops.{HaltsStraight}
use Rattle.jump_scan.proofs.Running.{IsStop-next, HasPassed-more, no_stop}
use Rattle.jump_scan.proofs.scans.straight.Goals as goal

pub returns-then-halts_straight-clause-some : goal.returns-then-halts_straight-clause-some
returns-then-halts_straight-clause-some g c =
    let passes = g.V.View.passes c.args.view.now c.args.class in
    let Halts = HaltsStraight passes (g.A.Aim.hit c.args.aim.now (g.V.View.extent c.args.view.now)) c.args.dir in
    IsStop-next passes Halts c.args.dir c.args.from c.run.cell c.in-Some.next c.run.invariant.passed c.in-Some.ensures.some
    (c.halts_straight.ensures.0 c.if-halts_straight.true)

pub run-preserved : goal.run-preserved
run-preserved g c =
    let passes = g.V.View.passes c.args.view.now c.args.class in
    let Halts = HaltsStraight passes (g.A.Aim.hit c.args.aim.now (g.V.View.extent c.args.view.now)) c.args.dir in
    record {
      free = c.in-Some.ensures.some.next;
      passed = HasPassed-more passes Halts c.args.dir c.args.from c.run.cell c.in-Some.next c.run.invariant.passed c.in-Some.ensures.some
          (λ halts. both_ways c.halts_straight.result c.if-halts_straight.false (c.halts_straight.ensures.1 halts));
    }

pub returns-clause-none : goal.returns-clause-none
returns-clause-none g c =
    let passes = g.V.View.passes c.args.view.now c.args.class in
    let Halts = HaltsStraight passes (g.A.Aim.hit c.args.aim.now (g.V.View.extent c.args.view.now)) c.args.dir in
    no_stop passes Halts c.args.dir c.args.from c.run.cell c.run.invariant.passed c.in_default.ensures.none
