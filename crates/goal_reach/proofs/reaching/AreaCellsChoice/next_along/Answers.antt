use Rattle.std.proofs.lemmas.Bool.{both_ways}
use Rattle.nav_types.proofs.Walking.{Joined-passes}
use Rattle.nav_types.specs.Lines.{line_on, cell_on}
use Rattle.goal_reach.proofs.reaching.AreaCellsChoice.next_along.Goals as goal

-- a cell joined to the start is passable
pub returns-clause-none : goal.returns-clause-none
returns-clause-none g c = λ k at before joined. (
    let it = c.args.self.now in
    let passes = g.M.View.passes it.map.now it.class in
    let cell = cell_on c.args.axis (line_on c.args.axis c.args.cell) k in
    both_ways (passes cell) (c.next_free.ensures.none_before k at before) (Joined-passes passes it.start cell c.requires.sound.1.passable joined))
