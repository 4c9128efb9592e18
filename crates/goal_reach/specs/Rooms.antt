-- Room within a goal that is turned inside out.
use Rattle.std.specs.Prelude.{IsTrue}
use Rattle.nav_types.specs.declared.cells.Cell.{Cell}
use Rattle.nav_types.specs.declared.cells.Rect.{Rect}
use Rattle.nav_types.specs.Cells.{IsInRect}
use Rattle.goal_shapes.specs.declared.goals.Goal.{Goal}
use Rattle.goal_shapes.specs.Goals.{contains, framed}

-- the rectangle is room within the goal: the goal has none of its cells, and the goal's box is the whole map
pub record IsRoomIn (goal : Goal) (rect : Rect) : Type 0 where
  pub clear : (cell : Cell) → IsInRect rect cell → IsTrue (contains goal cell) → ⊥
  pub everywhere : (cell : Cell) → IsTrue (framed goal cell)
