use Rattle.std.proofs.Common.{arith}
use Rattle.std.proofs.lemmas.Bool.{both_ways}
use Rattle.jump_scan.specs.Stops.{HaltsDiagonal}
use Rattle.jump_scan.proofs.Running.{IsStopWithin-next, HasGone-more, HasGone-none, no_stop, no_stop_within}
use Rattle.nav_types.specs.Straights.{diagonal_dir}
use Rattle.class_planes.specs.Planes.{is_passable}
use Rattle.class_planes.proofs.plane_scans.diagonal_within.Goals as goal

pub loop-steps-init : goal.loop-steps-init
loop-steps-init g c =
    let dir = diagonal_dir c.args.diagonal in
    let passes = is_passable c.args.plane.now in
    record {
      free = c.requires.start;
      words = c.row_words-row.ensures.words;
      bits = c.row_words-row.ensures.bits;
      gone = HasGone-none passes (HaltsDiagonal passes (g.A.Aim.hit c.args.aim.now c.args.plane.now.size) dir) dir c.args.from;
    }

pub returns-in_default-clause-none : goal.returns-in_default-clause-none
returns-in_default-clause-none g c =
    let passes = is_passable c.args.plane.now in
    let dir = diagonal_dir c.args.diagonal in
    let Halts = HaltsDiagonal passes (g.A.Aim.hit c.args.aim.now c.args.plane.now.size) dir in
    λ stop is. no_stop passes Halts dir c.args.from c.loop-steps.cell c.loop-steps.invariant.gone.0
    c.in_default.ensures.none stop is.0

pub returns-then-halts_diagonal-clause-some : goal.returns-then-halts_diagonal-clause-some
returns-then-halts_diagonal-clause-some g c =
    let passes = is_passable c.args.plane.now in
    let dir = diagonal_dir c.args.diagonal in
    let Halts = HaltsDiagonal passes (g.A.Aim.hit c.args.aim.now c.args.plane.now.size) dir in
    IsStopWithin-next passes Halts dir c.args.from c.loop-steps.cell c.in-Some.next c.loop-steps._steps c.args.most
    c.loop-steps.invariant.gone (omega arith) c.in-Some.ensures.some
    (c.halts_diagonal.ensures.0 c.if-halts_diagonal.true)

pub loop-steps-preserved : goal.loop-steps-preserved
loop-steps-preserved g c =
    let passes = is_passable c.args.plane.now in
    let dir = diagonal_dir c.args.diagonal in
    let Halts = HaltsDiagonal passes (g.A.Aim.hit c.args.aim.now c.args.plane.now.size) dir in
    record {
      free = c.in-Some.ensures.some.next;
      words = c.row_words-next_row.ensures.words;
      bits = c.row_words-next_row.ensures.bits;
      gone = HasGone-more passes Halts dir c.args.from c.loop-steps.cell c.in-Some.next c.loop-steps._steps
          c.loop-steps.invariant.gone c.in-Some.ensures.some
          (λ halts. both_ways c.halts_diagonal.result c.if-halts_diagonal.false (c.halts_diagonal.ensures.1 halts));
    }

pub returns-clause-none : goal.returns-clause-none
returns-clause-none g c =
    let passes = is_passable c.args.plane.now in
    let dir = diagonal_dir c.args.diagonal in
    let Halts = HaltsDiagonal passes (g.A.Aim.hit c.args.aim.now c.args.plane.now.size) dir in
    no_stop_within passes Halts dir c.args.from c.loop-steps.cell c.loop-steps._steps c.args.most
    c.loop-steps.invariant.gone (omega arith)
