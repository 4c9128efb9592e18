-- The chosen walk, and the answer of a search.
use Rattle.std.specs.Prelude.{ℕ, Bool, ◌≡◌, ◌≢◌, ◌+◌, ◌≤◌, ◌⊎◌, List, [], ◌∷◌, reverse, IsTrue, Option, Some, None}
use Rattle.nav_types.specs.declared.cells.Cell.{Cell}
use Rattle.nav_types.specs.declared.directions.Dir.{Dir}
use Rattle.nav_types.specs.declared.directions.Dir.TheVariants.{N, E, S, W, NE, SE, SW, NW}
use Rattle.nav_types.specs.Cells.{IsNotAfter}
use Rattle.nav_types.specs.Directions.{is_straight, step_cost, Leads}
use Rattle.nav_types.specs.Walks.{Step, IsWalk, walk_cost, IsDistance}
use Rattle.walks.specs.Waypoints.{waypoints}

-- a legal step in the direction enters the cell at the end of a walk of least cost from the start
pub record Enters (passes : Cell → Bool) (start cell : Cell) (dir : Dir) : Type 0 where
  pub before : Cell
  pub step : Step passes dir before cell
  pub cost : ℕ
  pub near : IsDistance passes start before cost
  pub far : IsDistance passes start cell (cost + step_cost dir)

-- straight directions come before diagonal ones
abbrev pub preference : List Dir
preference = N ∷ E ∷ S ∷ W ∷ NE ∷ SE ∷ SW ∷ NW ∷ []

-- the direction is the first of the list that is within the set
abbrev pub IsFirstIn : (Dir → Type 0) → List Dir → Dir → Type 0
IsFirstIn Within [] dir = ⊥
IsFirstIn Within (first ∷ rest) dir = (Within first × (dir ≡ first)) ⊎ ((Within first → ⊥) × IsFirstIn Within rest dir)

-- the step that follows is straight, and its direction is within the set
abbrev pub CanGoStraight : (Dir → Type 0) → Option Dir → Type 0
CanGoStraight Within None = ⊥
CanGoStraight Within (Some next) = IsTrue (is_straight next) × Within next

-- the direction of the step that follows, where that can go straight; else the first by preference
abbrev pub IsPicked : (Dir → Type 0) → Option Dir → Dir → Type 0
IsPicked Within next dir = (CanGoStraight Within next × (next ≡ Some dir))
    ⊎ ((CanGoStraight Within next → ⊥) × IsFirstIn Within preference dir)

-- the chosen steps into the cell, given from the cell backwards to the start; `next` is the step that follows them
abbrev pub IsChosenBack : (Cell → Bool) → Cell → Option Dir → List Dir → Cell → Type 0
IsChosenBack passes start next [] cell = start ≡ cell
IsChosenBack passes start next (dir ∷ dirs) cell =
    (start ≢ cell) × (IsPicked (Enters passes start cell) next dir
    × ((before : Cell) × (Leads dir before cell × IsChosenBack passes start (Some dir) dirs before)))

-- the chosen walk from the start to the end
abbrev pub IsChosen : (Cell → Bool) → Cell → List Dir → Cell → Type 0
IsChosen passes start dirs end = IsChosenBack passes start None (reverse dirs) end

-- the first in cell order of the nearest hit cells, with the cost and the waypoints of the chosen walk to it
pub record IsAnswer (passes : Cell → Bool) (start : Cell) (hit : Cell → Bool) (end : Cell) (cost : ℕ)
    (points : List Cell) : Type 0 where
  pub is_hit : IsTrue (hit end)
  pub walk : (dirs : List Dir) × (IsChosen passes start dirs end × ((walk_cost dirs ≡ cost) × (points ≡ waypoints start dirs)))
  pub nearest : (target : Cell) (dirs : List Dir) → IsTrue (hit target) → IsWalk passes start dirs target → cost ≤ walk_cost dirs
  pub first : (target : Cell) → IsTrue (hit target) → IsDistance passes start target cost → IsNotAfter end target
