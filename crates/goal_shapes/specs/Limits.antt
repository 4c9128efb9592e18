-- Which goals are sound for a map. All numbers are raw: the raw number of a navcell's side is 65536.
use Rattle.std.specs.Prelude.{ℤ, pos, ◌+ℤ◌}
use Rattle.nav_types.specs.declared.limits.TheConstants.{MAX_GOAL_EXTENT}
use Rattle.nav_types.specs.declared.cells.Size.{Size}
use Rattle.fixed_point.specs.declared.plane.Rectangle.{Rectangle}
use Rattle.fixed_point.specs.Plane.{IsUnitVector, IsOnAxis, IsUpTo}
use Rattle.goal_shapes.specs.declared.goals.Goal.{Goal}
use Rattle.goal_shapes.specs.declared.goals.Goal.TheVariants.{Point, Circle, NotCircle, Square, NotSquare}

-- a square along the axes of the map, which is to lie along the vector (1, 0)
abbrev pub upright : ℤ → ℤ → ℤ → Rectangle
upright x z half = record { x = x; z = z; ux = pos 65536; uz = pos 0; hw = half; hh = half }

-- The rectangle about a goal's shape: a point's has no sides, and a circle's lies along the axes of the map. A shape that is
-- turned inside out keeps its own.
abbrev pub extent : Goal → Rectangle
extent (Point x z) = upright x z (pos 0)
extent (Circle x z r) = upright x z r
extent (NotCircle x z r) = upright x z r
extent (Square rectangle) = rectangle
extent (NotSquare rectangle) = rectangle

-- the coordinates of a goal's middle
abbrev pub middle_x : Goal → ℤ
middle_x goal = (extent goal).x

abbrev pub middle_z : Goal → ℤ
middle_z goal = (extent goal).z

-- a square lies along a unit vector, and its half sides are from 0 to 4096 navcells
pub record IsWellFormedSquare (rectangle : Rectangle) : Type 0 where
  pub unit_vector : IsUnitVector rectangle.ux rectangle.uz
  pub width : IsUpTo MAX_GOAL_EXTENT rectangle.hw
  pub height : IsUpTo MAX_GOAL_EXTENT rectangle.hh

-- the goal's radius or sides are in their limits
abbrev pub IsWellFormed : Goal → Type 0
IsWellFormed goal = IsWellFormedSquare (extent goal)

-- the goal's middle lies on a map of this size
pub record IsGoalInside (size : Size) (goal : Goal) : Type 0 where
  pub column : IsOnAxis size.w (middle_x goal)
  pub row : IsOnAxis size.h (middle_z goal)

-- the goal is well formed, and its middle lies on the map
pub record IsSoundGoal (size : Size) (goal : Goal) : Type 0 where
  pub well_formed : IsWellFormed goal
  pub inside : IsGoalInside size goal

-- the rectangle with each half side longer by the same length
abbrev pub grown : Rectangle → ℤ → Rectangle
grown rectangle grow = record rectangle { hw = rectangle.hw +ℤ grow; hh = rectangle.hh +ℤ grow }
