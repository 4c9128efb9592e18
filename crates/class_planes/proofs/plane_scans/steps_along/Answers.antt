use Rattle.std.proofs.Common.{◌≤◌, sym, subst}
use Rattle.nav_types.specs.declared.straights.Way.{Way}
use Rattle.class_planes.specs.inner.Runs.{HoldsSteps, place_along}
use Rattle.class_planes.proofs.plane_scans.steps_along.Goals as goal

pub returns-in-Up : goal.returns-in-Up
returns-in-Up c =
    subst (λ (way : Way). HoldsSteps (λ n. (c.args.low ≤ place_along way c.args.place n)
    × (place_along way c.args.place n ≤ c.args.high)) c.args.count c.steps_up.result) (sym c.in-Up.is) c.steps_up.ensures
