use Rattle.std.proofs.Common.{sym}
use Rattle.grid_versions.specs.Passing.{passable_at}
use Rattle.turn_core.specs.NamedGoals.{goal_found}
use Rattle.pathserve_c.proofs.PathEnds.{no_goal, to_goal}
use Rattle.pathserve_c.proofs.endings.end_by_goal.Goals as goal

pub returns-in-Ok : goal.returns-in-Ok
returns-in-Ok c = λ told is.
    let v = c.args.version.now in
    c.end_at.ensures told
    (to_goal (passable_at v.map v.standing c.args.class) c.args.x c.args.z (goal_found v.map v.standing c.args.goal.now) c.in-Ok.goal told
    (sym c.in-Ok.ensures.found) is)

pub returns-in-Err : goal.returns-in-Err
returns-in-Err c = λ told is.
    let v = c.args.version.now in
    no_goal (passable_at v.map v.standing c.args.class) c.args.x c.args.z (goal_found v.map v.standing c.args.goal.now) told
    (sym c.in-Err.ensures.found) is
