-- Stretches of passable cells along a row, which their ends stand for.
use Rattle.std.specs.Prelude.{ℕ, Bool, true, false, ◌≡◌, ◌+◌, ◌<◌, ◌≤◌, ◌⊎◌, IsTrue}
use Rattle.nav_types.specs.declared.cells.Cell.{Cell}
use Rattle.nav_types.specs.declared.straights.Axis.{Axis}
use Rattle.nav_types.specs.declared.straights.Axis.TheVariants.{Row}
use Rattle.nav_types.specs.Lines.{cell_on}
use Rattle.goal_shapes.specs.declared.goals.Goal.{Goal}
use Rattle.goal_shapes.specs.declared.goals.Goal.TheVariants.{Point, Circle, NotCircle, Square, NotSquare}

-- the goal is a circle or a square turned inside out
abbrev pub is_inside_out : Goal → Bool
is_inside_out (Point x z) = false
is_inside_out (Circle x z r) = false
is_inside_out (NotCircle x z r) = true
is_inside_out (Square rectangle) = false
is_inside_out (NotSquare rectangle) = true

-- from a place of a line up to a later one, without that one, all cells are passable. They are several only in a row,
-- for a goal that is turned inside out
pub record IsStretch (passes : Cell → Bool) (goal : Goal) (axis : Axis) (line from past : ℕ) : Type 0 where
  pub begun : from < past
  pub free : (k : ℕ) → from ≤ k → k < past → IsTrue (passes (cell_on axis line k))
  pub several : (past ≡ from + 1) ⊎ ((axis ≡ Row) × IsTrue (is_inside_out goal))
