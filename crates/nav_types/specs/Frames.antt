-- The rectangle of an aim.
use Rattle.std.specs.Prelude.{Bool, ◌↔◌, IsTrue}
use Rattle.nav_types.specs.declared.cells.Cell.{Cell}
use Rattle.nav_types.specs.declared.cells.Rect.{Rect}
use Rattle.nav_types.specs.declared.cells.Size.{Size}
use Rattle.nav_types.specs.Cells.{IsInside, IsInRect, IsRectInside}

-- the rectangle lies in the map, and its cells are exactly those inside cells that are framed
pub record IsFrame (framed : Cell → Bool) (size : Size) (rect : Rect) : Type 0 where
  pub inside : IsRectInside size rect
  pub exact : (cell : Cell) → IsInside size cell → IsInRect rect cell ↔ IsTrue (framed cell)
