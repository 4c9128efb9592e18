-- The fewest waypoints of a walk that clear segments join.
use Rattle.std.specs.Prelude.{ℕ, Bool, ◌≡◌, ◌<◌, ◌≤◌, ◌+◌, ◌⊎◌, List, [], ◌∷◌, length, map, Some, slice_get}
use Rattle.nav_types.specs.declared.cells.Cell.{Cell}
use Rattle.nav_types.specs.declared.directions.Dir.{Dir}
use Rattle.nav_types.specs.Walks.{IsWalk}
use Rattle.walks.specs.Waypoints.{waypoints}
use Rattle.line_smooth.specs.Segments.{IsClear}

-- the segment between the two places of the list is clear
abbrev pub IsClearBetween : (Cell → Bool) → List Cell → ℕ → ℕ → Type 0
IsClearBetween passes places from next = (a b : Cell) → slice_get places from ≡ Some a → slice_get places next ≡ Some b
    → IsClear passes a b

-- one segment of a smoothed walk: it is clear, and goes on by 1 to 64 places
pub record IsRise (passes : Cell → Bool) (places : List Cell) (from next : ℕ) : Type 0 where
  pub rises : from < next
  pub few : next ≤ from + 64
  pub within : next < length places
  pub clear : IsClearBetween passes places from next

-- the numbers of places that lead from one place to the last, each by one rise from the one before
abbrev pub IsSublist : (Cell → Bool) → List Cell → ℕ → List ℕ → Type 0
IsSublist passes places from [] = from + 1 ≡ length places
IsSublist passes places from (next ∷ rest) = IsRise passes places from next × IsSublist passes places next rest

-- where two lists first differ, the first one has the greater number
abbrev pub IsLater : List ℕ → List ℕ → Type 0
IsLater (a ∷ rest) (b ∷ others) = (b < a) ⊎ ((a ≡ b) × IsLater rest others)
IsLater _ _ = Unit {0}

-- Of all lists of places that lead from one place to the last, the one with the fewest; among those the one that has the
-- later place where two first differ.
pub record IsSmoothed (passes : Cell → Bool) (places : List Cell) (from : ℕ) (kept : List ℕ) : Type 0 where
  pub sublist : IsSublist passes places from kept
  pub fewest : (other : List ℕ) → IsSublist passes places from other → length kept ≤ length other
  pub latest : (other : List ℕ) → IsSublist passes places from other → length other ≡ length kept → IsLater kept other

-- the corners are the waypoints of a legal walk from the start
pub record AreCorners (passes : Cell → Bool) (start : Cell) (corners : List Cell) : Type 0 where
  pub dirs : List Dir
  pub end : Cell
  pub walk : IsWalk passes start dirs end
  pub turns : corners ≡ waypoints start dirs

-- the points are those of the smoothed places of the start and the corners, in order, without the start
pub record IsSmoothing (passes : Cell → Bool) (start : Cell) (corners points : List Cell) : Type 0 where
  pub kept : List ℕ
  pub smoothed : IsSmoothed passes (start ∷ corners) 0 kept
  pub placed : map (λ place. slice_get (start ∷ corners) place) kept ≡ map (λ point. Some point) points
