use Rattle.std.proofs.Common.{IfNone, subst}
use Rattle.nav_types.specs.declared.cells.Cell.{Cell}
use Rattle.nav_types.specs.declared.directions.Dir.{Dir}
use Rattle.jump_scan.specs.Stops.{IsDiagonalStop}
use Rattle.class_planes.specs.Planes.{is_passable}
use Rattle.class_planes.proofs.plane_runs.diagonal_stop.Goals as goal

pub returns-in-Diagonal-clause-none : goal.returns-in-Diagonal-clause-none
returns-in-Diagonal-clause-none g c =
    let hit = g.A.Aim.hit c.args.aim.now c.args.plane.now.size in
    subst (λ (dir : Dir). IfNone c.diagonal.result
    ((stop : Cell) → IsDiagonalStop (is_passable c.args.plane.now) hit dir c.args.from stop → ⊥)) c.in-Diagonal.ensures
    c.diagonal.ensures.none
