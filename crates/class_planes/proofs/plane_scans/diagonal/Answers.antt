use Rattle.std.proofs.lemmas.Bool.{both_ways}
use Rattle.jump_scan.specs.Stops.{HaltsDiagonal}
use Rattle.jump_scan.proofs.Running.{IsStop-next, HasPassed-more, no_stop}
use Rattle.nav_types.specs.Straights.{diagonal_dir}
use Rattle.class_planes.specs.Planes.{is_passable}
use Rattle.class_planes.proofs.plane_scans.diagonal.Goals as goal

pub returns-then-halts_diagonal-clause-some : goal.returns-then-halts_diagonal-clause-some
returns-then-halts_diagonal-clause-some g c =
    let passes = is_passable c.args.plane.now in
    let Halts = HaltsDiagonal passes (g.A.Aim.hit c.args.aim.now c.args.plane.now.size) (diagonal_dir c.args.diagonal) in
    IsStop-next passes Halts (diagonal_dir c.args.diagonal) c.args.from c.run.cell c.in-Some.next c.run.invariant.passed
    c.in-Some.ensures.some
    (c.halts_diagonal.ensures.0 c.if-halts_diagonal.true)

pub run-preserved : goal.run-preserved
run-preserved g c =
    let passes = is_passable c.args.plane.now in
    let Halts = HaltsDiagonal passes (g.A.Aim.hit c.args.aim.now c.args.plane.now.size) (diagonal_dir c.args.diagonal) in
    record {
      free = c.in-Some.ensures.some.next;
      words = c.row_words-next_row.ensures.words;
      bits = c.row_words-next_row.ensures.bits;
      passed = HasPassed-more passes Halts (diagonal_dir c.args.diagonal) c.args.from c.run.cell c.in-Some.next c.run.invariant.passed
          c.in-Some.ensures.some
          (λ halts. both_ways c.halts_diagonal.result c.if-halts_diagonal.false (c.halts_diagonal.ensures.1 halts));
    }

pub returns-clause-none : goal.returns-clause-none
returns-clause-none g c =
    let passes = is_passable c.args.plane.now in
    let Halts = HaltsDiagonal passes (g.A.Aim.hit c.args.aim.now c.args.plane.now.size) (diagonal_dir c.args.diagonal) in
    no_stop passes Halts (diagonal_dir c.args.diagonal) c.args.from c.run.cell c.run.invariant.passed c.in_default.ensures.none
