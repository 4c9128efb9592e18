-- A shape that blocks a cell of a rectangle touches the rectangle, for its clearance and for each greater one.
use Rattle.std.proofs.Common.{◌≤◌, ℤ, IsTrue, unsigned_abs}
use Rattle.nav_types.specs.declared.cells.Cell.{Cell}
use Rattle.nav_types.specs.declared.cells.Rect.{Rect}
use Rattle.nav_types.specs.declared.cells.Size.{Size}
use Rattle.nav_types.specs.Cells.{IsInside, IsInRect}
use Rattle.obstruction_shapes.specs.declared.shapes.Shape.{Shape}
use Rattle.obstruction_shapes.specs.Shapes.{FitsMap}
use Rattle.obstruction_shapes.specs.Blocking.{blocked}
use Rattle.obstruction_shapes.proofs.Near.{blocked_near, IsNear-rises}
use Rattle.obstruction_store.specs.Touching.{Touches}

-- a shape that blocks a cell of the rectangle touches it
pub Touches-blocked : (size : Size) (rect : Rect) (clearance greatest : ℤ) (shape : Shape) (cell : Cell) → FitsMap size shape
    → unsigned_abs clearance ≤ unsigned_abs greatest → IsInside size cell → IsInRect rect cell
    → IsTrue (blocked shape clearance cell) → Touches size rect greatest shape
Touches-blocked size rect clearance greatest shape cell fits less inside within hit =
    let near = blocked_near shape clearance cell fits.unit_vector hit in
    record { cell = cell; inside = inside; in_rect = within; near = IsNear-rises shape clearance greatest cell less near }
