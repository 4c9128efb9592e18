use Rattle.std.proofs.Common.{arith}
use Rattle.std.proofs.lemmas.Bool.{both_ways}
use Rattle.jump_scan.specs.Stops.{HaltsDiagonal}
use Rattle.jump_scan.proofs.Running.{IsStopWithin-next, HasGone-more, HasGone-none, no_stop, no_stop_within}
use Rattle.jump_scan.proofs.scans.diagonal_within.Goals as goal

pub loop-steps-init : goal.loop-steps-init
loop-steps-init g c =
    let passes = g.V.View.passes c.args.view.now c.args.class in
    let Halts = HaltsDiagonal passes (g.A.Aim.hit c.args.aim.now (g.V.View.extent c.args.view.now)) c.args.dir in
    record { free = c.requires.start; gone = HasGone-none passes Halts c.args.dir c.args.from }

pub returns-in_default-clause-none : goal.returns-in_default-clause-none
returns-in_default-clause-none g c =
    let passes = g.V.View.passes c.args.view.now c.args.class in
    let Halts = HaltsDiagonal passes (g.A.Aim.hit c.args.aim.now (g.V.View.extent c.args.view.now)) c.args.dir in
    λ stop is. no_stop passes Halts c.args.dir c.args.from c.loop-steps.cell c.loop-steps.invariant.gone.0
    c.in_default.ensures.none stop is.0

pub returns-then-halts_diagonal-clause-some : goal.returns-then-halts_diagonal-clause-some
returns-then-halts_diagonal-clause-some g c =
    let passes = g.V.View.passes c.args.view.now c.args.class in
    let Halts = HaltsDiagonal passes (g.A.Aim.hit c.args.aim.now (g.V.View.extent c.args.view.now)) c.args.dir in
    IsStopWithin-next passes Halts c.args.dir c.args.from c.loop-steps.cell c.in-Some.next c.loop-steps._steps c.args.most
    c.loop-steps.invariant.gone (omega arith) c.in-Some.ensures.some
    (c.halts_diagonal.ensures.0 c.if-halts_diagonal.true)

pub loop-steps-preserved : goal.loop-steps-preserved
loop-steps-preserved g c =
    let passes = g.V.View.passes c.args.view.now c.args.class in
    let Halts = HaltsDiagonal passes (g.A.Aim.hit c.args.aim.now (g.V.View.extent c.args.view.now)) c.args.dir in
    record {
      free = c.in-Some.ensures.some.next;
      gone = HasGone-more passes Halts c.args.dir c.args.from c.loop-steps.cell c.in-Some.next c.loop-steps._steps
          c.loop-steps.invariant.gone c.in-Some.ensures.some
          (λ halts. both_ways c.halts_diagonal.result c.if-halts_diagonal.false (c.halts_diagonal.ensures.1 halts));
    }

pub returns-clause-none : goal.returns-clause-none
returns-clause-none g c =
    let passes = g.V.View.passes c.args.view.now c.args.class in
    let Halts = HaltsDiagonal passes (g.A.Aim.hit c.args.aim.now (g.V.View.extent c.args.view.now)) c.args.dir in
    no_stop_within passes Halts c.args.dir c.args.from c.loop-steps.cell c.loop-steps._steps c.args.most
    c.loop-steps.invariant.gone (omega arith)
