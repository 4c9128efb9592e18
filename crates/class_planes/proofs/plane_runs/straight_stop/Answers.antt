use Rattle.std.proofs.Common.{IfNone, subst}
use Rattle.nav_types.specs.declared.cells.Cell.{Cell}
use Rattle.nav_types.specs.declared.directions.Dir.{Dir}
use Rattle.jump_scan.specs.Stops.{IsStraightStop}
use Rattle.class_planes.specs.Planes.{is_passable}
use Rattle.class_planes.proofs.plane_runs.straight_stop.Goals as goal

pub returns-in-Straight-clause-none : goal.returns-in-Straight-clause-none
returns-in-Straight-clause-none g c =
    let hit = g.A.Aim.hit c.args.aim.now c.args.plane.now.size in
    subst (λ (dir : Dir). IfNone c.straight.result
    ((stop : Cell) → IsStraightStop (is_passable c.args.plane.now) hit dir c.args.from stop → ⊥)) c.in-Straight.ensures
    c.straight.ensures.none
