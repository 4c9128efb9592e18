use Rattle.walks.proofs.Tracing.{can_reach, chosen_walk, stays_in_grid, answered}
use Rattle.walks.proofs.search.plain_search.Goals as goal

pub nearest-end-requires-clause-some : goal.nearest-end-requires-clause-some
nearest-end-requires-clause-some g c =
    let passes = g.V.View.passes c.args.view.now c.args.class in
    let size = g.V.View.extent c.args.view.now in
    can_reach passes c.args.start (g.A.Aim.hit c.args.aim.now size) size c.in_ok-costs.costs.items (g.met.V.View.within c.args.view.now c.args.class)
    c.in_ok-costs.ensures c.requires.start c.requires.reach

pub waypoints-requires : goal.waypoints-requires
waypoints-requires g c =
    let passes = g.V.View.passes c.args.view.now c.args.class in
    let walk = chosen_walk passes c.args.start c.nearest-end.result c.in_ok-walk.walk c.in_ok-walk.ensures in
    stays_in_grid passes (g.V.View.extent c.args.view.now) (g.met.V.View.within c.args.view.now c.args.class) c.in_ok-walk.walk c.args.start c.nearest-end.result c.requires.start walk

pub returns : goal.returns
returns g c =
    let passes = g.V.View.passes c.args.view.now c.args.class in
    let size = g.V.View.extent c.args.view.now in
    let near = c.nearest-end.ensures in
    answered passes c.args.start (g.A.Aim.hit c.args.aim.now size) size c.in_ok-costs.costs.items c.nearest-end.result c.cost-cost.result c.in_ok-walk.walk c.in_ok-waypoints.waypoints
    (g.met.V.View.within c.args.view.now c.args.class) c.in_ok-costs.ensures c.requires.start
    (record { reached = near.reached; is_hit = near.hit; nearest = near.nearest; first = near.first })
    c.cost-cost.ensures c.in_ok-walk.ensures c.in_ok-waypoints.ensures
