use Rattle.walks.proofs.Sweeping.{exact_settled}
use Rattle.walks.proofs.sweeps.settled.Goals as goal

pub returns : goal.returns
returns g c =
    let passes = g.V.View.passes c.args.view.now c.args.class in
    let size = g.V.View.extent c.args.view.now in
    exact_settled passes c.args.start size c.settle.new.costs.items (g.met.V.View.within c.args.view.now c.args.class)
    c.settle.ensures.settled (c.settle.ensures.sound c.args.start (c.in_ok-costs.ensures passes))

pub settle-requires-clause-table : goal.settle-requires-clause-table
settle-requires-clause-table g c = (c.args.start, c.in_ok-costs.ensures (g.V.View.passes c.args.view.now c.args.class))
