use Rattle.std.proofs.Common.{◌<◌, ◌≤◌, IsTrue}
use Rattle.nav_types.specs.declared.cells.Cell.{Cell}
use Rattle.nav_types.specs.Walks.{Joined}
use Rattle.goal_shapes.specs.Goals.{contains}
use Rattle.goal_reach.proofs.reaching.AreaCells.has_goal_cell.Given as goal

-- no cell in the box's rows before row j is the goal's and joined to the start
abbrev pub invariant-loop-j : goal.invariant-loop-j
invariant-loop-j g l = (cell : Cell) → l.self.frame.j0 ≤ cell.j → cell.j < l.j → l.self.frame.i0 ≤ cell.i → cell.i ≤ l.self.frame.i1
    → IsTrue (contains l.self.goal.now cell) → Joined (g.M.View.passes l.self.map.now l.self.class) l.self.start cell → ⊥
