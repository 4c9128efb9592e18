-- Walks by their legs.
use Rattle.std.specs.Prelude.{ℕ, Bool, ◌≡◌, ◌<◌, ◌-◌, ◌+◌, List, [], ◌∷◌, Option, Some, replicate, suc}
use Rattle.nav_types.specs.declared.cells.Cell.{Cell}
use Rattle.nav_types.specs.declared.directions.Dir.{Dir}
use Rattle.nav_types.specs.Directions.{east, west, north, south}
use Rattle.nav_types.specs.Walks.{IsWalk}

-- one number goes up and the other down from a to b
pub record IsSign (up down a b : ℕ) : Type 0 where
  pub above : a < b → (up ≡ 1) × (down ≡ 0)
  pub below : b < a → (up ≡ 0) × (down ≡ 1)
  pub level : a ≡ b → (up ≡ 0) × (down ≡ 0)

-- the direction is the one from one cell to another, by their columns and their rows
pub record PointsTo (dir : Dir) (from to : Cell) : Type 0 where
  pub columns : IsSign (east dir) (west dir) from.i to.i
  pub rows : IsSign (north dir) (south dir) from.j to.j

-- one or more legal steps in the direction lead from one cell to the other
abbrev pub IsLeg : (Cell → Bool) → Dir → Cell → Cell → Type 0
IsLeg passes dir from to = (more : ℕ) × IsWalk passes from (replicate (suc more) dir) to

-- So many steps in the direction were made from one cell on the way to another one, where any leg to that one has so many
-- more to make.
pub record IsOnLeg (passes : Cell → Bool) (dir : Dir) (steps : ℕ) (from to : Cell) (walked : ℕ) (at : Cell) : Type 0 where
  pub made : (rest : ℕ) (end : Cell) → IsWalk passes at (replicate rest dir) end → IsWalk passes from (replicate (walked + rest) dir) end
  pub remains : (other : Dir) → IsLeg passes other from to → IsWalk passes at (replicate (steps - walked) dir) to

-- legs lead from corner to corner, each in another direction than the one before
abbrev pub AreLegs : (Cell → Bool) → Cell → Option Dir → List Cell → Type 0
AreLegs passes from before [] = Unit {0}
AreLegs passes from before (corner ∷ corners) = (dir : Dir)
    × (((before ≡ Some dir) → ⊥) × (IsLeg passes dir from corner × AreLegs passes corner (Some dir) corners))
