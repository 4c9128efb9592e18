use Rattle.std.proofs.Common.{◌≡◌, ◌+◌, ◌/◌, length, IsTrue}
use Rattle.nav_types.specs.Cells.{cell_at}
use Rattle.jump_scan.specs.Stops.{HaltsDiagonal}
use Rattle.jump_scan.proofs.Running.{HasPassed, left_over}
use Rattle.nav_types.specs.Straights.{diagonal_dir}
use Rattle.class_planes.specs.Planes.{AreFreeBits, is_passable}
use Rattle.class_planes.proofs.plane_scans.diagonal.Given as goal

abbrev pub invariant-run : goal.invariant-run
invariant-run g l =
    let passes = is_passable l.plane in
    record {
      free : IsTrue (passes l.cell);
      words : length l.row ≡ l.plane.size.w / 64 + 1;
      bits : AreFreeBits (λ i. passes (cell_at i l.cell.j)) l.row;
      passed : HasPassed passes (HaltsDiagonal passes (g.A.Aim.hit l.aim l.plane.size) (diagonal_dir l.diagonal)) (diagonal_dir l.diagonal) l.fn.from l.cell;
    }

abbrev pub decreases-run : goal.decreases-run
decreases-run g l = left_over l.plane.size (diagonal_dir l.diagonal) l.cell
