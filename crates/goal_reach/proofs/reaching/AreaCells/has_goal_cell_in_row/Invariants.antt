use Rattle.std.proofs.Common.{◌-◌, ◌≤◌}
use Rattle.nav_types.specs.Walks.{Joined}
use Rattle.goal_shapes.specs.Goals.{contains}
use Rattle.goal_reach.proofs.GoalRows.{IsEmptyRow}
use Rattle.goal_reach.proofs.reaching.AreaCells.has_goal_cell_in_row.Given as goal

-- no cell of the row in the box before column i is the goal's and joined to the start
abbrev pub invariant-row : goal.invariant-row
invariant-row g l =
    (l.i ≤ l.end) × IsEmptyRow (contains l.self.goal.now) (Joined (g.M.View.passes l.self.map.now l.self.class) l.self.start)
    l.j l.self.frame.i0 l.i

abbrev pub decreases-row : goal.decreases-row
decreases-row g l = l.end - l.i
