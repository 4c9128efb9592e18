use Rattle.std.proofs.Common.{◌≡◌, ◌+◌, arith}
use Rattle.nav_types.specs.Directions.{step_cost}
use Rattle.walks.specs.inner.Tables.{entry}
use Rattle.walks.proofs.Sweeping.{relaxes_along, relaxes_none}
use Rattle.walks.proofs.sweeps.relax_along.Goals as goal

pub returns-in_default : goal.returns-in_default
returns-in_default g c = relaxes_none _ _ _ _ (λ next taken. absurd (c.in_default.ensures.none next taken))

pub returns : goal.returns
returns g c =
    let passes = g.V.View.passes c.args.view.now c.args.class in
    let size = g.V.View.extent c.args.view.now in
    let step = c.in-Some.ensures.some in
    let inside = g.met.V.View.within c.args.view.now c.args.class c.in-Some.next step.next in
    let is : c.cost_at-here.result + c.cost.result ≡ entry size c.args.costs.now.items c.args.cell + step_cost c.args.dir = omega (arith, c.cost_at-here.ensures, c.cost.ensures.value) in
    relaxes_along passes size c.args.costs.now.items c.lower.new.costs.items c.args.cell c.in-Some.next c.args.dir (c.cost_at-here.result + c.cost.result) c.lower.result c.requires.table.1.covers c.requires.inside inside step is c.lower.ensures.fell c.lower.ensures.table
