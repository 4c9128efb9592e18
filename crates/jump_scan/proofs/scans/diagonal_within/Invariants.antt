use Rattle.std.proofs.Common.{IsTrue}
use Rattle.jump_scan.specs.Stops.{HaltsDiagonal}
use Rattle.jump_scan.proofs.Running.{HasGone}
use Rattle.jump_scan.proofs.scans.diagonal_within.Given as goal

abbrev pub invariant-loop-steps : goal.invariant-loop-steps
invariant-loop-steps g l =
    let passes = g.V.View.passes l.view l.class in
    let size = g.V.View.extent l.view in
    record {
      free : IsTrue (passes l.cell);
      gone : HasGone passes (HaltsDiagonal passes (g.A.Aim.hit l.aim size) l.dir) l.dir l.fn.from l.cell l._steps;
    }
