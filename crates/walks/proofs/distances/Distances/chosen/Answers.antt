use Rattle.walks.proofs.Tracing.{chosen_turned}
use Rattle.walks.proofs.distances.Distances.chosen.Goals as goal

pub returns : goal.returns
returns g c =
    chosen_turned (g.V.View.passes c.args.view.now c.args.class) c.args.self.now.start c.args.end c.in_ok-back.back c.in_ok-walk.walk c.in_ok-walk.ensures c.in_ok-back.ensures
