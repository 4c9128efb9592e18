use Rattle.std.proofs.Common.{◌≡◌, ◌+◌, ◌/◌, length, IsTrue}
use Rattle.nav_types.specs.Cells.{cell_at}
use Rattle.jump_scan.specs.Stops.{HaltsDiagonal}
use Rattle.jump_scan.proofs.Running.{HasGone}
use Rattle.nav_types.specs.Straights.{diagonal_dir}
use Rattle.class_planes.specs.Planes.{AreFreeBits, is_passable}
use Rattle.class_planes.proofs.plane_scans.diagonal_within.Given as goal

abbrev pub invariant-loop-steps : goal.invariant-loop-steps
invariant-loop-steps g l =
    let passes = is_passable l.plane in
    record {
      free : IsTrue (passes l.cell);
      words : length l.row ≡ l.plane.size.w / 64 + 1;
      bits : AreFreeBits (λ i. passes (cell_at i l.cell.j)) l.row;
      gone : HasGone passes (HaltsDiagonal passes (g.A.Aim.hit l.aim l.plane.size) (diagonal_dir l.diagonal)) (diagonal_dir l.diagonal) l.fn.from l.cell l._steps;
    }
