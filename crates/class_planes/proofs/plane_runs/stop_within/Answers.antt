use Rattle.std.proofs.Common.{IfNone, subst}
use Rattle.nav_types.specs.declared.cells.Cell.{Cell}
use Rattle.nav_types.specs.declared.directions.Dir.{Dir}
use Rattle.jump_scan.specs.Stops.{IsDiagonalStopWithin}
use Rattle.class_planes.specs.Planes.{is_passable}
use Rattle.class_planes.proofs.plane_runs.stop_within.Goals as goal

pub returns-in-Diagonal-clause-none : goal.returns-in-Diagonal-clause-none
returns-in-Diagonal-clause-none g c =
    let hit = g.A.Aim.hit c.args.aim.now c.args.plane.now.size in
    subst (λ (dir : Dir). IfNone c.diagonal_within.result
    ((stop : Cell) → IsDiagonalStopWithin (is_passable c.args.plane.now) hit dir c.args.most c.args.from stop → ⊥))
    c.in-Diagonal.ensures c.diagonal_within.ensures.none
