-- The standing obstructions that reach into a rectangle of cells.
use Rattle.std.specs.Prelude.{ℕ, ℤ, List, Contains, IsSomeAnd}
use Rattle.std.specs.List.Sorted.{IsStrictlyIncreasing}
use Rattle.std.specs.FinMap as map
use Rattle.nav_types.specs.declared.cells.Cell.{Cell}
use Rattle.nav_types.specs.declared.cells.Rect.{Rect}
use Rattle.nav_types.specs.declared.cells.Size.{Size}
use Rattle.nav_types.specs.Cells.{IsInside, IsInRect}
use Rattle.obstruction_shapes.specs.declared.shapes.Shape.{Shape}
use Rattle.obstruction_shapes.specs.Blocking.{IsNear}
use Rattle.obstruction_store.specs.Standing.{Standing}

-- some cell of the map lies in the rectangle and within the shape's reach for this clearance, a raw number
pub record Touches (size : Size) (rect : Rect) (clearance : ℤ) (shape : Shape) : Type 0 where
  pub cell : Cell
  pub inside : IsInside size cell
  pub in_rect : IsInRect rect cell
  pub near : IsNear shape clearance cell

-- an obstruction stands under the number, and its shape touches the rectangle
abbrev pub StandsTouching : Size → Rect → ℤ → Standing → ℕ → Type 0
StandsTouching size rect clearance standing number =
    IsSomeAnd (map.get standing number) (λ obstruction. Touches size rect clearance obstruction.shape)

-- the list has exactly the numbers of the standing obstructions that touch the rectangle, rising, each once
pub record AreTouching (size : Size) (rect : Rect) (clearance : ℤ) (standing : Standing) (ids : List ℕ) : Type 0 where
  pub each : (number : ℕ) → Contains ids number → StandsTouching size rect clearance standing number
  pub all : (number : ℕ) → StandsTouching size rect clearance standing number → Contains ids number
  pub rising : IsStrictlyIncreasing ids
