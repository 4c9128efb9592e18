-- The lines of a map that a rectangle meets, and those beside them.
use Rattle.std.specs.Prelude.{ℕ, ◌≤◌, ◌+◌}
use Rattle.nav_types.specs.declared.cells.Rect.{Rect}
use Rattle.nav_types.specs.declared.straights.Axis.{Axis}
use Rattle.nav_types.specs.declared.straights.Axis.TheVariants.{Row, Column}

-- the first and the last line along the axis that the rectangle meets
abbrev pub line_range : Axis → Rect → ℕ × ℕ
line_range Row rect = (rect.j0, rect.j1)
line_range Column rect = (rect.i0, rect.i1)

-- the rectangle meets the line along the axis, or one beside it
pub record IsLineAbout (axis : Axis) (rect : Rect) (n : ℕ) : Type 0 where
  pub from : (line_range axis rect).0 ≤ n + 1
  pub to : n ≤ (line_range axis rect).1 + 1
