-- A start and a goal have one target.
use Rattle.std.proofs.Common.{Bool, ◌≡◌, ◌∙◌, sym, ap}
use Rattle.nav_types.specs.declared.cells.Cell.{Cell}
use Rattle.nav_types.specs.Walks.{Joined}
use Rattle.goal_shapes.specs.declared.goals.Goal.{Goal}
use Rattle.goal_shapes.specs.Goals.{remoteness}
use Rattle.goal_reach.specs.declared.targets.Target.{Target}
use Rattle.goal_reach.specs.declared.targets.Target.TheVariants.{Goal as GoalTarget, Near}
use Rattle.goal_reach.specs.Targets.{AreTargets}
use Rattle.goal_reach.proofs.Choosing.{one_least}

pub one_target : (passes : Cell → Bool) (start : Cell) (goal : Goal) (a b : Target) → AreTargets passes start goal a → AreTargets passes start goal b → a ≡ b
one_target passes start goal (GoalTarget x) (GoalTarget y) p q = ap GoalTarget (p.0 ∙ sym q.0)
one_target passes start goal (GoalTarget x) (Near y) p q = absurd (q.0 p.1)
one_target passes start goal (Near x) (GoalTarget y) p q = absurd (p.0 q.1)
one_target passes start goal (Near x) (Near y) p q = ap Near (one_least (remoteness goal) (Joined passes start) x y p.1 q.1)
