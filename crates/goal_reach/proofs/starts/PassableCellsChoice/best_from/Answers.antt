use Rattle.std.proofs.Common.{IsTrue}
use Rattle.nav_types.specs.Lines.{cell_on}
use Rattle.goal_shapes.specs.Goals.{squared_distance}
use Rattle.goal_reach.proofs.Running.{ranked_is, alone_best}
use Rattle.goal_reach.proofs.starts.PassableCellsChoice.best_from.Goals as goal

pub returns-clause-best : goal.returns-clause-best
returns-clause-best g c =
    let it = c.args.self.now in
    let rank = squared_distance it.x it.z in
    let here = cell_on c.args.axis c.args.line c.args.from in
    alone_best rank (λ cell. IsTrue (g.V.View.passes it.view.now it.class cell)) c.args.axis c.args.line c.args.from
    (record { cell = c.cell_on-cell.result; rank = c.squared_distance-rank.result })
    (ranked_is rank c.cell_on-cell.result here c.squared_distance-rank.result c.cell_on-cell.ensures c.squared_distance-rank.ensures) c.requires.free
