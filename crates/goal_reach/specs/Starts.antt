-- The start cell of a point. Coordinates are raw: 65536 for a navcell.
use Rattle.std.specs.Prelude.{ℤ, Bool, ◌⊎◌, IsTrue, IsFalse}
use Rattle.nav_types.specs.declared.cells.Cell.{Cell}
use Rattle.goal_shapes.specs.Goals.{HoldsPoint, squared_distance}
use Rattle.goal_reach.specs.Choices.{IsLeastBy}

-- no passable cell holds the point
abbrev pub IsBlockedAt : (Cell → Bool) → ℤ → ℤ → Type 0
IsBlockedAt passes x z = (holder : Cell) → HoldsPoint x z holder → IsFalse (passes holder)

-- the cell is the passable one whose middle is nearest to the point, the first in cell order among equals
abbrev pub IsNearestPassable : (Cell → Bool) → ℤ → ℤ → Cell → Type 0
IsNearestPassable passes x z cell = IsLeastBy (squared_distance x z) (λ other. IsTrue (passes other)) cell

-- The start cell of the point (x, z): the passable cell that holds the point. Where no passable cell holds it, the
-- nearest passable one.
pub record IsStartCell (passes : Cell → Bool) (x z : ℤ) (cell : Cell) : Type 0 where
  pub passable : IsTrue (passes cell)
  pub nearest : HoldsPoint x z cell ⊎ (IsBlockedAt passes x z × IsNearestPassable passes x z cell)
