-- The texts of refusals.
use Rattle.std.specs.Prelude.{ℕ, List, codes}
use Rattle.goal_shapes.specs.declared.checking.GoalRefusal.{GoalRefusal}
use Rattle.goal_shapes.specs.declared.checking.GoalRefusal.TheVariants.{BadShape, GoalOutside}

-- what a refusal says
abbrev pub refusal_text : GoalRefusal → List ℕ
refusal_text BadShape = codes "the goal's shape is out of its limits"
refusal_text GoalOutside = codes "the goal's middle lies outside the map"
