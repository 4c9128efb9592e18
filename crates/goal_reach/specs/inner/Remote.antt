-- Remoteness outside a goal's box.
use Rattle.std.specs.Prelude.{ℕ, ◌≤◌}
use Rattle.nav_types.specs.declared.cells.Cell.{Cell}
use Rattle.nav_types.specs.declared.cells.Rect.{Rect}
use Rattle.nav_types.specs.declared.cells.Size.{Size}
use Rattle.nav_types.specs.Cells.{IsInside, IsInRect}
use Rattle.nav_types.specs.Frames.{IsFrame}
use Rattle.goal_shapes.specs.declared.goals.Goal.{Goal}
use Rattle.goal_shapes.specs.Goals.{framed, remoteness}
use Rattle.goal_reach.specs.inner.Rings.{widened}

-- each cell of a map that lies outside the goal's box there and so many rings round it is as remote as this or more so
abbrev pub IsLeastBeyond : Goal → ℕ → ℕ → Type 0
IsLeastBeyond goal rings least = (size : Size) (frame : Rect) (cell : Cell) → IsFrame (framed goal) size frame
    → IsInside size cell → (IsInRect (widened rings frame) cell → ⊥) → least ≤ remoteness goal cell
