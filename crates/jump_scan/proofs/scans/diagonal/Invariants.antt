use Rattle.std.proofs.Common.{IsTrue}
use Rattle.jump_scan.specs.Stops.{HaltsDiagonal}
use Rattle.jump_scan.proofs.Running.{HasPassed, left_over}
use Rattle.jump_scan.proofs.scans.diagonal.Given as goal

abbrev pub invariant-run : goal.invariant-run
invariant-run g l =
    let passes = g.V.View.passes l.view l.class in
    let size = g.V.View.extent l.view in
    record {
      free : IsTrue (passes l.cell);
      passed : HasPassed passes (HaltsDiagonal passes (g.A.Aim.hit l.aim size) l.dir) l.dir l.fn.from l.cell;
    }

abbrev pub decreases-run : goal.decreases-run
decreases-run g l = left_over (g.V.View.extent l.view) l.dir l.cell
