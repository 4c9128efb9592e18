-- What a straight run meets, read off the bits of three lines: the one along which it runs, and those to its two sides.
use Rattle.std.specs.Prelude.{ℕ, ◌&&◌, nat_lt, ⊤, suc, Bool, ◌≡◌, ◌<◌, ◌≤◌, ◌+◌, ◌-◌, ◌/◌, ◌%◌, nat_le, if◌then◌else◌, max, min, List, length, slice_index, IsTrue, IsFalse}
use Rattle.std.specs.Int.{bit_at}
use Rattle.nav_types.specs.declared.cells.Cell.{Cell}
use Rattle.nav_types.specs.declared.straights.Straight.{Straight}
use Rattle.nav_types.specs.declared.straights.Way.{Way}
use Rattle.nav_types.specs.declared.straights.Way.TheVariants.{Up, Down}
use Rattle.nav_types.specs.Lines.{cell_on, line_on, place_on}
use Rattle.nav_types.specs.Straights.{straight_dir}
use Rattle.nav_types.specs.Walks.{Step}
use Rattle.lane_rows.specs.Rows.{one_if}
use Rattle.jump_scan.specs.Successors.{HasForced}

-- bit i of a line of words, and 0 past its end
abbrev pub bit_in : List ℕ → ℕ → ℕ
bit_in words i = bit_at (slice_index words (i / 64)) (i % 64)

-- 1 where the second of two neighbouring bits is set and the first is not
abbrev pub opening : ℕ → ℕ → ℕ
opening before bit = min bit (1 - before)

-- the words of the line along which a run goes, and of those to its two sides
pub record LaneWords : Type 0 where
  pub mid : List ℕ
  pub left : List ℕ
  pub right : List ℕ

-- the three lines have equally many words, of which a map has few
pub record AreLanes (lanes : LaneWords) : Type 0 where
  pub left : length lanes.left ≡ length lanes.mid
  pub right : length lanes.right ≡ length lanes.mid
  pub few : length lanes.mid ≤ 33

-- 1 where a side opens for an upward run at the place
abbrev pub open_up : List ℕ → List ℕ → ℕ → ℕ
open_up left right i = max (opening (bit_in left (i - 1)) (bit_in left i)) (opening (bit_in right (i - 1)) (bit_in right i))

-- 1 where a side opens for a downward run at the place
abbrev pub open_down : List ℕ → List ℕ → ℕ → ℕ
open_down left right i =
    max (opening (bit_in left (i + 1)) (bit_in left i)) (opening (bit_in right (i + 1)) (bit_in right i))

-- 1 where an upward run halts at the place: it is not free, or a side opens there
abbrev pub end_up : LaneWords → ℕ → ℕ
end_up lanes i = max (1 - bit_in lanes.mid i) (open_up lanes.left lanes.right i)

-- 1 where a downward run halts at the place
abbrev pub end_down : LaneWords → ℕ → ℕ
end_down lanes i = max (1 - bit_in lanes.mid i) (open_down lanes.left lanes.right i)

-- the first place after another whose bit is 1
pub record IsNext (bit : ℕ → ℕ) (from to : ℕ) : Type 0 where
  pub after : from < to
  pub set : bit to ≡ 1
  pub none : (i : ℕ) → from < i → i < to → bit i ≡ 0

-- the last place before another whose bit is 1
pub record IsLast (bit : ℕ → ℕ) (from to : ℕ) : Type 0 where
  pub before : to < from
  pub set : bit to ≡ 1
  pub none : (i : ℕ) → to < i → i < from → bit i ≡ 0

-- the bit so many places up or down a line; before the line's begin all are 0
abbrev pub bits_along : Way → List ℕ → ℕ → ℕ → ℕ
bits_along Up words from n = bit_in words (from + n)
bits_along Down words from n = if nat_le n from then bit_in words (from - n) else 0

-- how far a run goes: the steps to the last place where it may go on, and whether a side opens there
pub record Far : Type 0 where
  pub count : ℕ
  pub forced : Bool

-- 1 where a side opens with the step after so many
abbrev pub opens_after : (ℕ → ℕ) → (ℕ → ℕ) → ℕ → ℕ
opens_after left right n = max (opening (left n) (left (suc n))) (opening (right n) (right (suc n)))

-- of the sides with these bits the first one opens with the last of so many steps
pub record OpensFirst (left right : ℕ → ℕ) (count : ℕ) : Type 0 where
  pub opens : (n : ℕ) × ((suc n ≡ count) × (opens_after left right n ≡ 1))
  pub shut : (n : ℕ) → suc n < count → opens_after left right n ≡ 0

-- the run along these bits goes so far: to the first forced place, or to its last free place
pub record GoesFar (mid left right : ℕ → ℕ) (far : Far) : Type 0 where
  pub free : (n : ℕ) → n ≤ far.count → mid n ≡ 1
  pub shut : (n : ℕ) → suc n < far.count → opens_after left right n ≡ 0
  pub opens : IsTrue far.forced → (n : ℕ) × ((suc n ≡ far.count) × (opens_after left right n ≡ 1))
  pub last : IsFalse far.forced → (n : ℕ) → suc n ≡ far.count → opens_after left right n ≡ 0
  pub ends : IsFalse far.forced → mid (suc far.count) ≡ 0

-- the place so many steps up or down a line
abbrev pub place_along : Way → ℕ → ℕ → ℕ
place_along Up from n = from + n
place_along Down from n = from - n

-- a run downwards goes no farther than the line's begin
abbrev pub HasRoom : Way → ℕ → ℕ → Type 0
HasRoom Up from n = ⊤
HasRoom Down from n = n ≤ from

-- the cell so many steps away
abbrev pub cell_along : Straight → Cell → ℕ → Cell
cell_along straight cell n = cell_on straight.axis (line_on straight.axis cell)
    (place_along straight.way (place_on straight.axis cell) n)

-- the straight run from the cell goes so far: to the first cell with a forced successor, or to the end of the run
pub record RunsFar (passes : Cell → Bool) (straight : Straight) (from : Cell) (far : Far) : Type 0 where
  pub start : from ≡ cell_along straight from 0
  pub room : HasRoom straight.way (place_on straight.axis from) far.count
  pub steps : (n : ℕ) → suc n ≤ far.count
      → Step passes (straight_dir straight) (cell_along straight from n) (cell_along straight from (suc n))
  pub free : (n : ℕ) → n ≤ far.count → IsTrue (passes (cell_along straight from n))
  pub plain : (n : ℕ) → suc n < far.count
      → HasForced passes (cell_along straight from (suc n)) (straight_dir straight) → ⊥
  pub forced : IsTrue far.forced → (n : ℕ)
      × ((suc n ≡ far.count) × HasForced passes (cell_along straight from (suc n)) (straight_dir straight))
  pub last : IsFalse far.forced → (n : ℕ) → suc n ≡ far.count
      → HasForced passes (cell_along straight from (suc n)) (straight_dir straight) → ⊥
  pub ends : IsFalse far.forced → (next : Cell)
      → Step passes (straight_dir straight) (cell_along straight from far.count) next → ⊥

-- the flag says whether the straight run from the cell ends at a cell with a forced successor
abbrev pub TellsStop : (Cell → Bool) → Straight → Cell → Bool → Type 0
TellsStop passes straight from stop = (far : Far) × (RunsFar passes straight from far × (stop ≡ far.forced))

-- the first of the cells from 1 step on that is hit
pub record IsFirstHit (hit : Cell → Bool) (straight : Straight) (from : Cell) (count steps : ℕ) : Type 0 where
  pub some : 0 < steps
  pub most : steps ≤ count
  pub hits : IsTrue (hit (cell_along straight from steps))
  pub none : (n : ℕ) → 0 < n → n < steps → IsFalse (hit (cell_along straight from n))

-- the three lines are line n of a map with the line after it to the left and the line before it to the right; before the
-- first line nothing is free
abbrev pub is_before : (ℕ → ℕ → Bool) → ℕ → ℕ → Bool
is_before free n i = nat_lt 0 n && free (n - 1) i

pub record AreLanesOf (free : ℕ → ℕ → Bool) (n : ℕ) (lanes : LaneWords) : Type 0 where
  pub mid : (i : ℕ) → bit_in lanes.mid i ≡ one_if (free n i)
  pub left : (i : ℕ) → bit_in lanes.left i ≡ one_if (free (n + 1) i)
  pub right : (i : ℕ) → bit_in lanes.right i ≡ one_if (is_before free n i)

-- the first and the last number of steps
pub record StepRange : Type 0 where
  pub first : ℕ
  pub last : ℕ

-- among the steps from 1 to `count`, those that are wanted lie in the range
pub record HoldsSteps (Wanted : ℕ → Type 0) (count : ℕ) (steps : StepRange) : Type 0 where
  pub some : 0 < steps.first
  pub most : steps.last ≤ count
  pub all : (n : ℕ) → 0 < n → n ≤ count → Wanted n → (steps.first ≤ n) × (n ≤ steps.last)
