-- The targets of a goal that can be reached from a start cell. `passes` says which cells are passable.
use Rattle.std.specs.Prelude.{Bool, ◌≡◌, ◌&&◌, ◌==◌}
use Rattle.nav_types.specs.declared.cells.Cell.{Cell}
use Rattle.nav_types.specs.declared.cells.Size.{Size}
use Rattle.nav_types.specs.Cells.{IsInside}
use Rattle.nav_types.specs.Walks.{Joined, CanReach}
use Rattle.goal_shapes.specs.declared.goals.Goal.{Goal}
use Rattle.goal_shapes.specs.Goals.{contains, remoteness, framed}
use Rattle.goal_shapes.specs.Limits.{IsSoundGoal}
use Rattle.goal_reach.specs.declared.targets.Target.{Target}
use Rattle.goal_reach.specs.declared.targets.Target.TheVariants.{Goal as GoalTarget, Near}
use Rattle.goal_reach.specs.Choices.{IsLeastBy}

-- the two cells are one
abbrev pub is_cell : Cell → Cell → Bool
is_cell a b = (b.i == a.i) && (b.j == a.j)

-- the cells that a target hits: those of the goal, or the near cell alone
abbrev pub hit_by : Target → Cell → Bool
hit_by (GoalTarget goal) cell = contains goal cell
hit_by (Near near) cell = is_cell near cell

-- the cells of a target's box: those of the goal's box, or the near cell alone
abbrev pub framed_by : Target → Cell → Bool
framed_by (GoalTarget goal) cell = framed goal cell
framed_by (Near near) cell = is_cell near cell

-- the goal is sound for a map of this size, or the near cell lies in it
abbrev pub IsSoundTarget : Size → Target → Type 0
IsSoundTarget size (GoalTarget goal) = IsSoundGoal size goal
IsSoundTarget size (Near near) = IsInside size near

-- the cell is the one joined to the start that is least remote from the goal, the first in cell order among equals
abbrev pub IsNearCell : (Cell → Bool) → Cell → Goal → Cell → Type 0
IsNearCell passes start goal cell = IsLeastBy (remoteness goal) (Joined passes start) cell

-- The targets of a goal from a start: the goal, where one of its cells is joined to the start. Where none is, the near
-- cell.
abbrev pub AreTargets : (Cell → Bool) → Cell → Goal → Target → Type 0
AreTargets passes start goal (GoalTarget same) = (same ≡ goal) × CanReach passes start (contains goal)
AreTargets passes start goal (Near cell) = (CanReach passes start (contains goal) → ⊥) × IsNearCell passes start goal cell
