-- What a request names: its class, its point and its goal. All numbers are raw: a unit of length is a navcell's side over 65536.
use Rattle.std.specs.Prelude.{ℕ, Bool, ◌&&◌, not, if◌then◌else◌, List, Option, None, Some, Result, Ok, Err, ℤ, position, bytes_eq}
use Rattle.std.specs.FinMap as fin_map
use Rattle.nav_types.specs.declared.cells.Size.{Size}
use Rattle.nav_types.specs.declared.limits.TheConstants.{MAX_GOAL_EXTENT, MAX_GROWTH}
use Rattle.fixed_point.specs.Plane.{is_unit_vector, is_on_axis, is_up_to}
use Rattle.obstruction_shapes.specs.declared.shapes.Obstruction.{Obstruction as StandingShape}
use Rattle.obstruction_shapes.specs.Shapes.{turned_of}
use Rattle.goal_shapes.specs.declared.goals.Goal.{Goal}
use Rattle.goal_shapes.specs.declared.goals.Goal.TheVariants.{Square}
use Rattle.goal_shapes.specs.declared.goals.GoalSpec.{GoalSpec}
use Rattle.goal_shapes.specs.declared.goals.GoalSpec.TheVariants.{Plain, Obstruction}
use Rattle.goal_shapes.specs.Limits.{extent, grown}
use Rattle.posts.specs.declared.edits.Refusal.{Refusal}
use Rattle.posts.specs.declared.edits.Refusal.TheVariants.{BadShape, UnknownId, GoalOutside}
use Rattle.posts.specs.Maps.{Map}
use Rattle.turn_core.specs.Words.{Standing}

-- the number of the map's class of that name, where it has one
abbrev pub class_named : Map → List ℕ → Option ℕ
class_named map name = position (λ class. bytes_eq class.name name) map.classes

-- the point (x, z) lies on a map of this size
unfoldable pub is_on_map : Size → ℤ → ℤ → Bool
is_on_map size x z = is_on_axis size.w x && is_on_axis size.h z

-- the rectangle about a goal lies along a unit vector, and its half sides are from 0 to 4096 navcells
unfoldable pub is_well_formed : Goal → Bool
is_well_formed goal = let rectangle = extent goal in
    is_unit_vector rectangle.ux rectangle.uz && is_up_to MAX_GOAL_EXTENT rectangle.hw && is_up_to MAX_GOAL_EXTENT rectangle.hh

-- a plain goal is itself, where it is well formed and its middle lies on the map
abbrev pub plain_goal : Size → Goal → Result Goal Refusal
plain_goal size goal = if not (is_well_formed goal) then Err BadShape
    else (if not (is_on_map size (extent goal).x (extent goal).z) then Err GoalOutside else Ok goal)

-- the goal about what stands under a number, where something does: the square of its shape, each half side longer by a distance
abbrev pub goal_about : Option StandingShape → ℤ → Result Goal Refusal
goal_about None grow = Err UnknownId
goal_about (Some found) grow = Ok (Square (grown (turned_of found.shape) grow))

-- The goal that is named on a map with what stands on it: a plain one, or one about an obstruction, by a distance from
-- 0 to 3840 navcells.
unfoldable pub goal_found : Map → Standing → GoalSpec → Result Goal Refusal
goal_found map standing (Plain goal) = plain_goal map.size goal
goal_found map standing (Obstruction id grow) =
    if is_up_to MAX_GROWTH grow then goal_about (fin_map.get standing id) grow else Err BadShape
