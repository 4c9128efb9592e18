use Rattle.std.proofs.Common.{sym, subst, arith}
use Rattle.nav_types.specs.declared.cells.Size.{Size}
use Rattle.nav_types.specs.Straights.{straight_dir}
use Rattle.jump_scan.specs.Stops.{IsStraightStop}
use Rattle.class_planes.specs.Planes.{is_passable}
use Rattle.class_planes.proofs.plane_scans.scanned_stop.Goals as goal

pub cell_along-requires-clause-column : goal.cell_along-requires-clause-column
cell_along-requires-clause-column g c =
    let size : Size = c.args.plane.now.size in
    let at = c.in-Some.ensures.inside.column in
    let few = size.wide.few in
    omega (arith, at, few)

pub cell_along-requires-clause-row : goal.cell_along-requires-clause-row
cell_along-requires-clause-row g c =
    let size : Size = c.args.plane.now.size in
    let at = c.in-Some.ensures.inside.row in
    let few = size.high.few in
    omega (arith, at, few)

pub returns-clause-some : goal.returns-clause-some
returns-clause-some g c =
    subst (IsStraightStop (is_passable c.args.plane.now) (g.A.Aim.hit c.args.aim.now c.args.plane.now.size)
    (straight_dir c.args.straight) c.args.from) (sym c.cell_along.ensures) c.in-Some.ensures.some
