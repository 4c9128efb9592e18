-- The tables from which smoothed places are read.
use Rattle.std.specs.Prelude.{ℕ, Bool, ◌≡◌, ◌<◌, ◌≤◌, ◌+◌, ◌⊎◌, List, [], ◌∷◌, length, slice_index, Option, Some, None, IsFalse}
use Rattle.nav_types.specs.declared.cells.Cell.{Cell}
use Rattle.line_smooth.specs.Segments.{Touches}
use Rattle.line_smooth.specs.Smoothed.{IsClearBetween, IsRise, IsSmoothed}

-- the segment from each place to the next is clear
abbrev pub AreLegsClear : (Cell → Bool) → List Cell → Type 0
AreLegsClear passes places = (from : ℕ) → from + 1 < length places → IsClearBetween passes places from (from + 1)

-- the cell that is remembered, where there is one, is not passable
abbrev pub IsBlocking : (Cell → Bool) → Option Cell → Type 0
IsBlocking passes None = Unit {0}
IsBlocking passes (Some cell) = IsFalse (passes cell)

-- the segment touches the cell that is remembered, where there is one
abbrev pub TouchesSome : Cell → Cell → Option Cell → Type 0
TouchesSome from to None = ⊥
TouchesSome from to (Some cell) = Touches from to cell

-- there are smoothed places from the one place on, and so many
abbrev pub HasHops : (Cell → Bool) → List Cell → ℕ → ℕ → Type 0
HasHops passes places from hops = (kept : List ℕ) × (IsSmoothed passes places from kept × (length kept ≡ hops))

-- the table has the number of smoothed places from each place from the first one on
pub record AreHopsFrom (passes : Cell → Bool) (places : List Cell) (hops : List ℕ) (first : ℕ) : Type 0 where
  pub covers : length hops ≡ length places
  pub each : (at : ℕ) → first ≤ at → at < length places → HasHops passes places at (slice_index hops at)

-- the rise goes to the place with the fewest hops, and to the last of those
pub record IsBestNext (passes : Cell → Bool) (places : List Cell) (hops : List ℕ) (from next : ℕ) : Type 0 where
  pub rise : IsRise passes places from next
  pub least : (at : ℕ) → IsRise passes places from at
      → (slice_index hops next < slice_index hops at)
      ⊎ ((slice_index hops next ≡ slice_index hops at) × (at ≤ next))

-- from each place but the last the smoothed places begin with the one that its rise leads to
abbrev pub IsLedFrom : (Cell → Bool) → List Cell → List ℕ → ℕ → Type 0
IsLedFrom passes places rises from = (rest : List ℕ) × IsSmoothed passes places from ((from + slice_index rises from) ∷ rest)

-- the table has the rise of each place from the first one on, but the last
pub record ArePlanned (passes : Cell → Bool) (places : List Cell) (rises : List ℕ) (first : ℕ) : Type 0 where
  pub covers : length rises ≡ length places
  pub each : (from : ℕ) → first ≤ from → from + 1 < length places → IsLedFrom passes places rises from

-- each rise goes on, and not past the last of so many places
pub record AreRising (count : ℕ) (rises : List ℕ) : Type 0 where
  pub covers : length rises ≡ count
  pub some : 0 < count
  pub on : (from : ℕ) → from + 1 < count → 0 < slice_index rises from
  pub within : (from : ℕ) → from + 1 < count → from + slice_index rises from < count

-- the places that the rises lead to, one after another, up to the last of so many
abbrev pub Follows : ℕ → List ℕ → ℕ → List ℕ → Type 0
Follows count rises from [] = from + 1 ≡ count
Follows count rises from (next ∷ rest) = (from + 1 < count)
    × ((next ≡ from + slice_index rises from) × Follows count rises next rest)
