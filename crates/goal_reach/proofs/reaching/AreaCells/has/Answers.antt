use Rattle.goal_reach.proofs.Joining.{same_area}
use Rattle.goal_reach.proofs.reaching.AreaCells.has.Goals as goal

pub returns : goal.returns
returns g c =
    let it = c.args.self.now in
    same_area (g.M.View.passes it.map.now it.class) (g.M.Areas.has_area it.map.now it.class) it.start c.args.cell it.area c.area.result
    (g.met.M.Areas.blocked it.map.now it.class) (g.met.M.Areas.joined it.map.now it.class) c.requires.area c.area.ensures
