-- Tests of what a request names hold exactly where what they test does, and what they make of its goal.
use Rattle.std.proofs.Common.{◌≡◌, ℕ, Bool, true, false, ◌&&◌, not, ℤ, refl, sym, ap, ◌∙◌, Decides, Ok, Err}
use Rattle.std.specs.Prelude.{Option, if◌then◌else◌}
use Rattle.std.specs.FinMap as fin_map
use Rattle.std.proofs.lemmas.Bool.{false_from_ne_true}
use Rattle.std.proofs.lemmas.Bool.Decides.{Decides-like, Decides-and}
use Rattle.nav_types.specs.declared.limits.TheConstants.{MAX_GOAL_EXTENT, MAX_GROWTH}
use Rattle.nav_types.specs.declared.cells.Size.{Size}
use Rattle.fixed_point.specs.declared.plane.Rectangle.{Rectangle}
use Rattle.fixed_point.specs.Plane.{IsOnAxis, is_unit_vector, is_on_axis, is_up_to}
use Rattle.fixed_point.proofs.PlaneTests.{Decides-is_on_axis, Decides-is_up_to, Decides-is_unit_vector}
use Rattle.obstruction_shapes.specs.declared.shapes.Obstruction.{Obstruction as StandingShape}
use Rattle.goal_shapes.specs.declared.goals.Goal.{Goal}
use Rattle.goal_shapes.specs.declared.goals.GoalSpec.TheVariants.{Obstruction}
use Rattle.goal_shapes.specs.Limits.{extent, middle_x, middle_z, IsWellFormedSquare, IsWellFormed, IsGoalInside, IsSoundGoal}
use Rattle.posts.specs.declared.edits.Refusal.TheVariants.{BadShape, GoalOutside}
use Rattle.posts.specs.Maps.{Map}
use Rattle.turn_core.specs.Words.{Standing}
use Rattle.turn_core.specs.NamedGoals.{is_on_map, is_well_formed, plain_goal, goal_about, goal_found}

-- ---- tests

pub on_map_decides : (size : Size) (x z : ℤ) → Decides (is_on_map size x z) (IsOnAxis size.w x × IsOnAxis size.h z)
unfolding is_on_map
on_map_decides size x z =
    Decides-and (is_on_axis size.w x) (is_on_axis size.h z) (Decides-is_on_axis size.w x) (Decides-is_on_axis size.h z)

well_formed_square_decides : (s : Rectangle)
    → Decides (is_unit_vector s.ux s.uz && is_up_to MAX_GOAL_EXTENT s.hw && is_up_to MAX_GOAL_EXTENT s.hh) (IsWellFormedSquare s)
well_formed_square_decides s =
    Decides-like _ (λ all. record { unit_vector = all.0.0; width = all.0.1; height = all.1 })
    (λ are. ((are.unit_vector, are.width), are.height))
    (Decides-and (is_unit_vector s.ux s.uz && is_up_to 4096 s.hw) (is_up_to 4096 s.hh)
    (Decides-and (is_unit_vector s.ux s.uz) (is_up_to 4096 s.hw) (Decides-is_unit_vector s.ux s.uz) (Decides-is_up_to 4096 s.hw))
    (Decides-is_up_to 4096 s.hh))

pub well_formed_decides : (goal : Goal) → Decides (is_well_formed goal) (IsWellFormed goal)
unfolding is_well_formed
well_formed_decides goal = well_formed_square_decides (extent goal)

pub goal_inside_decides : (size : Size) (goal : Goal) → Decides (is_on_map size (middle_x goal) (middle_z goal)) (IsGoalInside size goal)
goal_inside_decides size goal =
    Decides-like _ (λ both. record { column = both.0; row = both.1 }) (λ is. (is.column, is.row))
    (on_map_decides size (middle_x goal) (middle_z goal))

-- ---- plain goals

plain_by : (size : Size) (goal : Goal) (well inside : Bool) → is_well_formed goal ≡ well → is_on_map size (middle_x goal) (middle_z goal) ≡ inside
    → plain_goal size goal ≡ (if not well then Err BadShape else (if not inside then Err GoalOutside else Ok goal))
plain_by size goal well inside p q = cc

pub plain_sound : (size : Size) (goal : Goal) → IsSoundGoal size goal → Ok goal ≡ plain_goal size goal
plain_sound size goal sound =
    sym (plain_by size goal true true ((well_formed_decides goal).1 sound.well_formed) ((goal_inside_decides size goal).1 sound.inside))

pub plain_bad : (size : Size) (goal : Goal) → (IsWellFormed goal → ⊥) → Err BadShape ≡ plain_goal size goal
plain_bad size goal bad =
    let inside = is_on_map size (middle_x goal) (middle_z goal) in
    sym (plain_by size goal false inside (false_from_ne_true (is_well_formed goal) (λ well. bad ((well_formed_decides goal).0 well))) refl)

pub plain_outside : (size : Size) (goal : Goal) → IsWellFormed goal → (IsGoalInside size goal → ⊥) → Err GoalOutside ≡ plain_goal size goal
plain_outside size goal well outside =
    let inside = is_on_map size (middle_x goal) (middle_z goal) in
    sym (plain_by size goal true false ((well_formed_decides goal).1 well)
    (false_from_ne_true inside (λ on. outside ((goal_inside_decides size goal).0 on))))

-- ---- goals about obstructions

-- the goal by a distance within or out of its limits
about_by : (map : Map) (standing : Standing) (id : ℕ) (grow : ℤ) (near : Bool) → is_up_to MAX_GROWTH grow ≡ near
    → goal_found map standing (Obstruction id grow) ≡ (if near then goal_about (fin_map.get standing id) grow else Err BadShape)
unfolding goal_found
about_by map standing id grow near is = cc

pub about_far : (map : Map) (standing : Standing) (id : ℕ) (grow : ℤ) → is_up_to MAX_GROWTH grow ≡ false → Err BadShape ≡ goal_found map standing (Obstruction id grow)
about_far map standing id grow far = sym (about_by map standing id grow false far)

pub about_near : (map : Map) (standing : Standing) (id : ℕ) (grow : ℤ) (found : Option StandingShape) → is_up_to MAX_GROWTH grow ≡ true → found ≡ fin_map.get standing id
    → goal_about found grow ≡ goal_found map standing (Obstruction id grow)
about_near map standing id grow found near has =
    ap (λ (o : Option StandingShape). goal_about o grow) has ∙ sym (about_by map standing id grow true near)
