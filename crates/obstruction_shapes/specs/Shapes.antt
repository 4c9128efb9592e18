-- Shapes and where they fit. All numbers are raw: the raw number of a navcell's side is 65536.
use Rattle.std.specs.Prelude.{ℤ, pos}
use Rattle.nav_types.specs.declared.limits.TheConstants.{MAX_HALF_SIDE}
use Rattle.nav_types.specs.declared.cells.Size.{Size}
use Rattle.fixed_point.specs.declared.plane.Rectangle.{Rectangle}
use Rattle.fixed_point.specs.Plane.{IsUnitVector, IsOnAxis, IsUpTo}
use Rattle.obstruction_shapes.specs.declared.shapes.Shape.{Shape}
use Rattle.obstruction_shapes.specs.declared.shapes.Shape.TheVariants.{Unit as UnitShape, Square}

-- a shape as a rectangle: a unit counts as a square along the axes whose half sides are its half
abbrev pub turned_of : Shape → Rectangle
turned_of (UnitShape x z half) = record { x = x; z = z; ux = pos 65536; uz = pos 0; hw = half; hh = half }
turned_of (Square rectangle) = rectangle

-- the shape with its middle at another place
abbrev pub moved_to : Shape → ℤ → ℤ → Shape
moved_to (UnitShape _ _ half) x z = UnitShape x z half
moved_to (Square rectangle) x z = Square (record rectangle { x = x; z = z })

-- the shape lies along a unit vector
abbrev pub HasUnitVector : Shape → Type 0
HasUnitVector shape = IsUnitVector (turned_of shape).ux (turned_of shape).uz

-- the shape fits a map of this size: its middle lies on it, its half sides are from 0 to 256 navcells, and it lies
-- along a unit vector
pub record FitsMap (size : Size) (shape : Shape) : Type 0 where
  pub column : IsOnAxis size.w (turned_of shape).x
  pub row : IsOnAxis size.h (turned_of shape).z
  pub width : IsUpTo MAX_HALF_SIDE (turned_of shape).hw
  pub height : IsUpTo MAX_HALF_SIDE (turned_of shape).hh
  pub unit_vector : HasUnitVector shape
