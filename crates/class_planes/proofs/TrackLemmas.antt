-- A run of cells whose bits are known.
use Rattle.std.proofs.Common.{◌≡◌, ℕ, suc, ◌+◌, ◌-◌, ◌/◌, ◌%◌, ◌<◌, ◌≤◌, ◌⊎◌, Bool, true, false, ◌&&◌, ltb, IsTrue, List, get_or, inl, inr, refl, sym, ◌∙◌, subst, arith}
use Rattle.std.proofs.lemmas.Bool.{cases_lt, false≢true, lt-ltb, ltb-true, and_parts, and_from}
use Rattle.std.proofs.lemmas.Nat.Bits.{bit_at-lt}
use Rattle.nav_types.specs.declared.cells.Cell.{Cell}
use Rattle.nav_types.specs.declared.directions.Dir.{Dir}
use Rattle.nav_types.specs.declared.straights.Axis.{Axis}
use Rattle.nav_types.specs.declared.straights.Axis.TheVariants.{Row, Column}
use Rattle.nav_types.specs.declared.straights.Straight.{Straight}
use Rattle.nav_types.specs.Lines.{cell_on, line_on, place_on}
use Rattle.nav_types.specs.Straights.{along, straight_dir}
use Rattle.nav_types.specs.Cells.{cell_at}
use Rattle.nav_types.specs.Directions.{is_straight, Leads}
use Rattle.nav_types.specs.Beside.{IsFreeBeside}
use Rattle.nav_types.proofs.CellOrder.{same_cell}
use Rattle.nav_types.proofs.Walking.{straight_step, leads_from_same, leads_to_same}
use Rattle.nav_types.proofs.Bits.{set_in_either}
use Rattle.jump_scan.specs.declared.turns.Side.{Side}
use Rattle.jump_scan.specs.declared.turns.Side.TheVariants.{Left, Right}
use Rattle.jump_scan.specs.Turns.{aside_to}
use Rattle.jump_scan.specs.Successors.{HasForced, IsForcing}
use Rattle.jump_scan.proofs.Turning.{HasForced-from_side, side_from_HasForced}
use Rattle.lane_rows.specs.Rows.{one_if}
use Rattle.nav_types.specs.declared.straights.Way.{Way}
use Rattle.nav_types.specs.declared.straights.Way.TheVariants.{Up, Down}
use Rattle.class_planes.specs.inner.Runs.{opening, LaneWords, bits_along, opens_after, OpensFirst, Far, GoesFar, cell_along, RunsFar, HasRoom, AreLanesOf, bit_in, place_along, is_before}
use Rattle.class_planes.proofs.FarLemmas.{down_at, down_past, down_small}

-- a run along an axis is straight
straight_is : (axis : Axis) (way : Way) → is_straight (along axis way) ≡ true
straight_is Row Up = refl
straight_is Row Down = refl
straight_is Column Up = refl
straight_is Column Down = refl

-- the bits of one side
pub record IsSide (passes : Cell → Bool) (straight : Straight) (from : Cell) (mid bits : ℕ → ℕ) (side : Side) : Type 0 where
  pub small : (n : ℕ) → bits n < 2
  pub free : (n : ℕ) → mid n ≡ 1 → bits n ≡ 1 → IsFreeBeside passes (cell_along straight from n) (aside_to side (straight_dir straight))
  pub set : (n : ℕ) → mid n ≡ 1 → IsFreeBeside passes (cell_along straight from n) (aside_to side (straight_dir straight)) → bits n ≡ 1

-- the bits along a run, and those to its two sides
pub record IsTrack (passes : Cell → Bool) (straight : Straight) (from : Cell) (mid left right : ℕ → ℕ) : Type 0 where
  pub start : from ≡ cell_along straight from 0
  pub leads : (n : ℕ) → mid (suc n) ≡ 1 → Leads (straight_dir straight) (cell_along straight from n) (cell_along straight from (suc n))
  pub free : (n : ℕ) → mid n ≡ 1 → IsTrue (passes (cell_along straight from n))
  pub next : (n : ℕ) (cell : Cell) → Leads (straight_dir straight) (cell_along straight from n) cell → IsTrue (passes cell) → mid (suc n) ≡ 1
  pub one : Side
  pub two : Side
  pub all : (side : Side) → (side ≡ one) ⊎ (side ≡ two)
  pub at_one : IsSide passes straight from mid left one
  pub at_two : IsSide passes straight from mid right two

-- a side that opens forces a turn
opens_forced : (passes : Cell → Bool) (straight : Straight) (from : Cell) (mid left right bits : ℕ → ℕ) (side : Side) (n : ℕ)
    → IsTrack passes straight from mid left right
    → IsSide passes straight from mid bits side → mid n ≡ 1 → mid (suc n) ≡ 1 → bits n ≡ 0 → bits (suc n) ≡ 1 → HasForced
    passes (cell_along straight from (suc n)) (straight_dir straight)
opens_forced passes straight from mid left right bits side n line_set is here there shut open_now =
    let at : Cell = cell_along straight from (suc n) in
    HasForced-from_side passes at (straight_dir straight) side (line_set.free (suc n) there) (
      (
        (straight_is straight.axis straight.way),
        λ before leads free.
            let same = leads_from_same (straight_dir straight) before (cell_along straight from n) at leads (line_set.leads n there) in
            let set = is.set n here (subst (λ (c : Cell). IsFreeBeside passes c (aside_to side (straight_dir straight))) same free) in
            omega (arith, set, shut),
      ),
      is.free (suc n) there open_now,
    )

forced_opens : (passes : Cell → Bool) (straight : Straight) (from : Cell) (mid left right bits : ℕ → ℕ) (side : Side) (n : ℕ)
    → IsTrack passes straight from mid left right
    → IsSide passes straight from mid bits side → mid n ≡ 1 → mid (suc n) ≡ 1
    → IsForcing passes (cell_along straight from (suc n)) (straight_dir straight) side × IsFreeBeside passes (cell_along straight from (suc n))
    (aside_to side (straight_dir straight))
    → opening (bits n) (bits (suc n)) ≡ 1
forced_opens passes straight from mid left right bits side n line_set is here there both =
    let now = is.set (suc n) there both.1 in
    let small = is.small n in
    elim (cases_lt (bits n) 1) [
      | inl low ↦ omega (arith, now, low)
      | inr high ↦
          let one : bits n ≡ 1 = omega (arith, high, small) in
          absurd (both.0.1 (cell_along straight from n) (line_set.leads n there) (is.free n here one))
    ]

opening_small : (before bit : ℕ) → bit < 2 → opening before bit < 2
opening_small before bit small = omega (arith, small)

opening_parts : (before bit : ℕ) → bit < 2 → opening before bit ≡ 1 → (before ≡ 0) × (bit ≡ 1)
opening_parts before bit small is = (omega (arith, is, small), omega (arith, is, small))

forced_from : (passes : Cell → Bool) (straight : Straight) (from : Cell) (mid left right : ℕ → ℕ) (n : ℕ)
    → IsTrack passes straight from mid left right
    → mid n ≡ 1 → mid (suc n) ≡ 1 → opens_after left right n ≡ 1 → HasForced passes (cell_along straight from (suc n)) (straight_dir straight)
forced_from passes straight from mid left right n line_set here there is =
    elim (set_in_either (opening (left n) (left (suc n))) (opening (right n) (right (suc n)))
    (opening_small (left n) (left (suc n)) (line_set.at_one.small (suc n)))
    (opening_small (right n) (right (suc n)) (line_set.at_two.small (suc n))) is) [
      | inl one ↦
          let parts = opening_parts (left n) (left (suc n)) (line_set.at_one.small (suc n)) one in
          opens_forced passes straight from mid left right left line_set.one n line_set line_set.at_one here there parts.0 parts.1
      | inr two ↦
          let parts = opening_parts (right n) (right (suc n)) (line_set.at_two.small (suc n)) two in
          opens_forced passes straight from mid left right right line_set.two n line_set line_set.at_two here there parts.0 parts.1
    ]

plain_from : (passes : Cell → Bool) (straight : Straight) (from : Cell) (mid left right : ℕ → ℕ) (n : ℕ)
    → IsTrack passes straight from mid left right
    → mid n ≡ 1 → mid (suc n) ≡ 1 → opens_after left right n ≡ 0 → HasForced passes (cell_along straight from (suc n)) (straight_dir straight) →
    ⊥
plain_from passes straight from mid left right n line_set here there none forced =
    let found = side_from_HasForced passes (cell_along straight from (suc n)) (straight_dir straight) forced in
    let Of = λ (side : Side). IsForcing passes (cell_along straight from (suc n)) (straight_dir straight) side × IsFreeBeside passes
    (cell_along straight from (suc n)) (aside_to side (straight_dir straight)) in
    elim (line_set.all found.0) [
      | inl one ↦
          let is = forced_opens passes straight from mid left right left line_set.one n line_set line_set.at_one here there
          (subst Of one found.1) in
          omega (arith, is, none)
      | inr two ↦
          let is = forced_opens passes straight from mid left right right line_set.two n line_set line_set.at_two here there
          (subst Of two found.1) in
          omega (arith, is, none)
    ]

pub far_runs : (passes : Cell → Bool) (straight : Straight) (from : Cell) (mid left right : ℕ → ℕ) (far : Far)
    → IsTrack passes straight from mid left right → HasRoom straight.way (place_on straight.axis from) far.count
    → GoesFar mid left right far → RunsFar passes straight from far
far_runs passes straight from mid left right far line_set room goes = record {
  start = line_set.start;
  room = room;
  steps = λ n within.
      let here = goes.free n (omega (arith, within)) in
      let there = goes.free (suc n) within in
      straight_step passes (straight_dir straight) (cell_along straight from n) (cell_along straight from (suc n)) (straight_is straight.axis straight.way)
      (line_set.leads n there) (line_set.free n here) (line_set.free (suc n) there);
  free = λ n within. line_set.free n (goes.free n within);
  plain = λ n less. plain_from passes straight from mid left right n line_set (goes.free n (omega (arith, less)))
      (goes.free (suc n) (omega (arith, less))) (goes.shut n less);
  forced = λ is.
      let opens = goes.opens is in
      let n : ℕ = opens.0 in
      let last : suc n ≡ far.count = opens.1.0 in (
        n,
        (
          last,
          forced_from passes straight from mid left right n line_set (goes.free n (omega (arith, last)))
              (goes.free (suc n) (omega (arith, last))) opens.1.1,
        ),
      );
  last = λ is n same. plain_from passes straight from mid left right n line_set (goes.free n (omega (arith, same)))
      (goes.free (suc n) (omega (arith, same))) (goes.last is n same);
  ends = λ is next step.
      let on = line_set.next far.count next step.leads step.next in
      let off = goes.ends is in
      omega (arith, on, off);
}

-- what a bit of a flag says
flag_true : (flag : Bool) → one_if flag ≡ 1 → IsTrue flag
flag_true true is = refl
flag_true false is = absurd (omega (arith, is))

flag_one : (flag : Bool) → IsTrue flag → one_if flag ≡ 1
flag_one true is = refl
flag_one false is = absurd (false≢true is)

free_to : (passes : Cell → Bool) (dir : Dir) (c next : Cell) → Leads dir c next → IsFreeBeside passes c dir
    → IsTrue (passes next)
free_to passes dir c next leads free =
    subst (λ (x : Cell). IsTrue (passes x)) (leads_to_same dir c free.0 next free.1.0 leads) free.1.1

-- ---- along a line

abbrev cell_to : Axis → Way → Cell → ℕ → Cell
cell_to axis way from n = cell_on axis (line_on axis from) (place_along way (place_on axis from) n)

begins : (axis : Axis) (way : Way) (from : Cell) → from ≡ cell_to axis way from 0
begins Row Up from = same_cell from (cell_at (from.i + 0) from.j) (omega arith) refl
begins Row Down from = same_cell from (cell_at (from.i - 0) from.j) (omega arith) refl
begins Column Up from = same_cell from (cell_at from.i (from.j + 0)) refl (omega arith)
begins Column Down from = same_cell from (cell_at from.i (from.j - 0)) refl (omega arith)

steps_on : (axis : Axis) (way : Way) (from : Cell) (n : ℕ) → HasRoom way (place_on axis from) (suc n)
    → Leads (along axis way) (cell_to axis way from n) (cell_to axis way from (suc n))
steps_on Row Up from n room = record { columns = omega arith; rows = omega arith }
steps_on Row Down from n room = record { columns = omega (arith, room); rows = omega arith }
steps_on Column Up from n room = record { columns = omega arith; rows = omega arith }
steps_on Column Down from n room = record { columns = omega arith; rows = omega (arith, room) }

-- a step that leads on has room, and comes to the next cell
has_led : (axis : Axis) (way : Way) (from : Cell) (n : ℕ) (cell : Cell) → Leads (along axis way) (cell_to axis way from n) cell
    → HasRoom way (place_on axis from) (suc n) × (cell ≡ cell_to axis way from (suc n))
has_led Row Up from n cell leads =
    let columns = leads.columns in let rows = leads.rows in
    (tt, same_cell cell (cell_at (from.i + suc n) from.j) (omega (arith, columns)) (omega (arith, rows)))
has_led Row Down from n cell leads =
    let columns = leads.columns in let rows = leads.rows in (
      omega (arith, columns),
      same_cell cell (cell_at (from.i - suc n) from.j) (omega (arith, columns)) (omega (arith, rows)),
    )
has_led Column Up from n cell leads =
    let columns = leads.columns in let rows = leads.rows in
    (tt, same_cell cell (cell_at from.i (from.j + suc n)) (omega (arith, columns)) (omega (arith, rows)))
has_led Column Down from n cell leads =
    let columns = leads.columns in let rows = leads.rows in (
      omega (arith, rows),
      same_cell cell (cell_at from.i (from.j - suc n)) (omega (arith, columns)) (omega (arith, rows)),
    )

-- the bits along a run are those of its places
bit_there : (way : Way) (words : List ℕ) (from n : ℕ) → HasRoom way from n
    → bits_along way words from n ≡ bit_in words (place_along way from n)
bit_there Up words from n room = refl
bit_there Down words from n room = down_at words from n room

bits_small : (way : Way) (words : List ℕ) (from n : ℕ) → bits_along way words from n < 2
bits_small Up words from n = bit_at-lt (get_or words ((from + n) / 64) 0) ((from + n) % 64)
bits_small Down words from n = down_small words from n

-- a set bit of a run lies on the line
has_room : (way : Way) (words : List ℕ) (from n : ℕ) → bits_along way words from n ≡ 1 → HasRoom way from n
has_room Up words from n set = tt
has_room Down words from n set = elim (cases_lt from n) [
  | inl past ↦ let none = down_past words from n past in absurd (omega (arith, none, set))
  | inr within ↦ within
]

-- a run goes no farther than the line's begin
pub run_room : (way : Way) (left right : ℕ → ℕ) (words : List ℕ) (from : ℕ) (far : Far)
    → GoesFar (bits_along way words from) left right far → HasRoom way from far.count
run_room way left right words from far goes = has_room way words from far.count (goes.free far.count (omega arith))

-- ---- the lines beside it

-- the side on which the line after lies, and that of the line before
abbrev after_side : Axis → Way → Side
after_side Row Up = Left
after_side Row Down = Right
after_side Column Up = Right
after_side Column Down = Left

abbrev before_side : Axis → Way → Side
before_side Row Up = Right
before_side Row Down = Left
before_side Column Up = Left
before_side Column Down = Right

either_side : (axis : Axis) (way : Way) (side : Side) → (side ≡ after_side axis way) ⊎ (side ≡ before_side axis way)
either_side Row Up Left = inl refl
either_side Row Up Right = inr refl
either_side Row Down Left = inr refl
either_side Row Down Right = inl refl
either_side Column Up Left = inr refl
either_side Column Up Right = inl refl
either_side Column Down Left = inl refl
either_side Column Down Right = inr refl

to_after : (axis : Axis) (way : Way) (line place : ℕ)
    → Leads (aside_to (after_side axis way) (along axis way)) (cell_on axis line place) (cell_on axis (line + 1) place)
to_after Row Up line place = record { columns = omega arith; rows = omega arith }
to_after Row Down line place = record { columns = omega arith; rows = omega arith }
to_after Column Up line place = record { columns = omega arith; rows = omega arith }
to_after Column Down line place = record { columns = omega arith; rows = omega arith }

to_before : (axis : Axis) (way : Way) (line place : ℕ) → 0 < line
    → Leads (aside_to (before_side axis way) (along axis way)) (cell_on axis line place) (cell_on axis (line - 1) place)
to_before Row Up line place some = record { columns = omega arith; rows = omega (arith, some) }
to_before Row Down line place some = record { columns = omega arith; rows = omega (arith, some) }
to_before Column Up line place some = record { columns = omega (arith, some); rows = omega arith }
to_before Column Down line place some = record { columns = omega (arith, some); rows = omega arith }

some_before : (axis : Axis) (way : Way) (line place : ℕ) (next : Cell)
    → Leads (aside_to (before_side axis way) (along axis way)) (cell_on axis line place) next → 0 < line
some_before Row Up line place next leads = let rows = leads.rows in omega (arith, rows)
some_before Row Down line place next leads = let rows = leads.rows in omega (arith, rows)
some_before Column Up line place next leads = let columns = leads.columns in omega (arith, columns)
some_before Column Down line place next leads = let columns = leads.columns in omega (arith, columns)

-- the bits of the line after, where they are those of its cells
side_after : (passes : Cell → Bool) (straight : Straight) (from : Cell) (mid bits : ℕ → ℕ)
    → ((n : ℕ) → bits n < 2)
    → ((n : ℕ) → mid n ≡ 1 → bits n ≡ one_if (passes (cell_on straight.axis (line_on straight.axis from + 1)
    (place_along straight.way (place_on straight.axis from) n))))
    → IsSide passes straight from mid bits (after_side straight.axis straight.way)
side_after passes straight from mid bits small is =
    let axis = straight.axis in
    let way = straight.way in
    let line : ℕ = line_on axis from in
    let place : ℕ → ℕ = place_along way (place_on axis from) in
    let beside : ℕ → Cell = λ n. cell_on axis (line + 1) (place n) in
    let aside : Dir = aside_to (after_side axis way) (straight_dir straight) in
    record {
      small = small;
      free = λ n here set.
          (beside n, (to_after axis way line (place n), flag_true (passes (beside n)) (sym (is n here) ∙ set)));
      set = λ n here free. is n here ∙ flag_one (passes (beside n))
          (free_to passes aside (cell_along straight from n) (beside n) (to_after axis way line (place n)) free);
    }

-- the bits of the line before, which is one of zeros where there is none
side_before : (passes : Cell → Bool) (straight : Straight) (from : Cell) (mid bits : ℕ → ℕ)
    → ((n : ℕ) → bits n < 2)
    → ((n : ℕ) → mid n ≡ 1 → bits n ≡ one_if (is_before (λ m k. passes (cell_on straight.axis m k))
    (line_on straight.axis from) (place_along straight.way (place_on straight.axis from) n)))
    → IsSide passes straight from mid bits (before_side straight.axis straight.way)
side_before passes straight from mid bits small is =
    let axis = straight.axis in
    let way = straight.way in
    let line : ℕ = line_on axis from in
    let place : ℕ → ℕ = place_along way (place_on axis from) in
    let beside : ℕ → Cell = λ n. cell_on axis (line - 1) (place n) in
    let aside : Dir = aside_to (before_side axis way) (straight_dir straight) in
    record {
      small = small;
      free = λ n here set.
          let both = and_parts (ltb 0 line) (passes (beside n))
          (flag_true (ltb 0 line && passes (beside n)) (sym (is n here) ∙ set)) in
          (beside n, (to_before axis way line (place n) (ltb-true 0 line both.0), both.1));
      set = λ n here free.
          let there = some_before axis way line (place n) free.0 free.1.0 in
          is n here ∙ flag_one (ltb 0 line && passes (beside n))
          (and_from (ltb 0 line) (passes (beside n)) (lt-ltb 0 line there)
          (free_to passes aside (cell_along straight from n) (beside n) (to_before axis way line (place n) there) free));
    }

-- the three lines of a run
pub track_of : (passes : Cell → Bool) (straight : Straight) (from : Cell) (lanes : LaneWords)
    → AreLanesOf (λ n k. passes (cell_on straight.axis n k)) (line_on straight.axis from) lanes
    → IsTrack passes straight from (bits_along straight.way lanes.mid (place_on straight.axis from))
    (bits_along straight.way lanes.left (place_on straight.axis from))
    (bits_along straight.way lanes.right (place_on straight.axis from))
track_of passes straight from lanes are =
    let axis = straight.axis in
    let way = straight.way in
    let first : ℕ = place_on axis from in
    let place : ℕ → ℕ = place_along way first in
    let room = λ (n : ℕ) (here : bits_along way lanes.mid first n ≡ 1). has_room way lanes.mid first n here in
    let bit = λ (words : List ℕ) (n : ℕ) (here : bits_along way lanes.mid first n ≡ 1).
    bit_there way words first n (room n here) in
    record {
      start = begins axis way from;
      leads = λ n there. steps_on axis way from n (room (suc n) there);
      free = λ n here. flag_true (passes (cell_along straight from n))
          (sym (bit lanes.mid n here ∙ are.mid (place n)) ∙ here);
      next = λ n cell leads free.
          let led = has_led axis way from n cell leads in
          bit_there way lanes.mid first (suc n) led.0 ∙ are.mid (place (suc n))
          ∙ flag_one (passes (cell_along straight from (suc n))) (subst (λ (c : Cell). IsTrue (passes c)) led.1 free);
      one = after_side axis way;
      two = before_side axis way;
      all = either_side axis way;
      at_one = side_after passes straight from (bits_along way lanes.mid first) (bits_along way lanes.left first)
          (bits_small way lanes.left first) (λ n here. bit lanes.left n here ∙ are.left (place n));
      at_two = side_before passes straight from (bits_along way lanes.mid first) (bits_along way lanes.right first)
          (bits_small way lanes.right first) (λ n here. bit lanes.right n here ∙ are.right (place n));
    }

-- a run along three lines of a map
pub lanes_far : (passes : Cell → Bool) (straight : Straight) (from : Cell) (lanes : LaneWords) (far : Far)
    → AreLanesOf (λ n k. passes (cell_on straight.axis n k)) (line_on straight.axis from) lanes
    → GoesFar (bits_along straight.way lanes.mid (place_on straight.axis from))
    (bits_along straight.way lanes.left (place_on straight.axis from))
    (bits_along straight.way lanes.right (place_on straight.axis from)) far → RunsFar passes straight from far
lanes_far passes straight from lanes far are goes =
    let way = straight.way in
    let first : ℕ = place_on straight.axis from in
    far_runs passes straight from (bits_along way lanes.mid first) (bits_along way lanes.left first)
    (bits_along way lanes.right first) far (track_of passes straight from lanes are)
    (run_room way (bits_along way lanes.left first) (bits_along way lanes.right first) lanes.mid first far goes) goes

-- ---- the first side that opens along it

less_room : (way : Way) (from n count : ℕ) → n ≤ count → HasRoom way from count → HasRoom way from n
less_room Up from n count within room = tt
less_room Down from n count within room = omega (arith, within, room)

opens_small : (passes : Cell → Bool) (straight : Straight) (from : Cell) (mid left right : ℕ → ℕ) (n : ℕ)
    → IsTrack passes straight from mid left right → opens_after left right n < 2
opens_small passes straight from mid left right n line_set =
    let one = opening_small (left n) (left (suc n)) (line_set.at_one.small (suc n)) in
    let two = opening_small (right n) (right (suc n)) (line_set.at_two.small (suc n)) in
    omega (arith, one, two)

opens_from : (passes : Cell → Bool) (straight : Straight) (from : Cell) (mid left right : ℕ → ℕ) (n : ℕ)
    → IsTrack passes straight from mid left right
    → mid n ≡ 1 → mid (suc n) ≡ 1 → HasForced passes (cell_along straight from (suc n)) (straight_dir straight)
    → opens_after left right n ≡ 1
opens_from passes straight from mid left right n line_set here there forced =
    let small = opens_small passes straight from mid left right n line_set in
    elim (cases_lt (opens_after left right n) 1) [
      | inl low ↦ absurd (plain_from passes straight from mid left right n line_set here there (omega (arith, low)) forced)
      | inr high ↦ omega (arith, high, small)
    ]

shut_from : (passes : Cell → Bool) (straight : Straight) (from : Cell) (mid left right : ℕ → ℕ) (n : ℕ)
    → IsTrack passes straight from mid left right
    → mid n ≡ 1 → mid (suc n) ≡ 1 → (HasForced passes (cell_along straight from (suc n)) (straight_dir straight) → ⊥)
    → opens_after left right n ≡ 0
shut_from passes straight from mid left right n line_set here there plain =
    let small = opens_small passes straight from mid left right n line_set in
    elim (cases_lt (opens_after left right n) 1) [
      | inl low ↦ omega (arith, low)
      | inr high ↦ absurd (plain (forced_from passes straight from mid left right n line_set here there
          (omega (arith, high, small))))
    ]

-- where a run ends at a cell at which a side opens, that is the first one that opens along its lines
pub forced_first : (passes : Cell → Bool) (straight : Straight) (from : Cell) (lanes : LaneWords) (far : Far)
    → AreLanesOf (λ n k. passes (cell_on straight.axis n k)) (line_on straight.axis from) lanes
    → RunsFar passes straight from far → IsTrue far.forced
    → OpensFirst (bits_along straight.way lanes.left (place_on straight.axis from))
    (bits_along straight.way lanes.right (place_on straight.axis from)) far.count
forced_first passes straight from lanes far are runs is =
    let way = straight.way in
    let first : ℕ = place_on straight.axis from in
    let mid : ℕ → ℕ = bits_along way lanes.mid first in
    let left : ℕ → ℕ = bits_along way lanes.left first in
    let right : ℕ → ℕ = bits_along way lanes.right first in
    let line_set = track_of passes straight from lanes are in
    let there = λ (n : ℕ) (within : n ≤ far.count).
    bit_there way lanes.mid first n (less_room way first n far.count within runs.room)
    ∙ are.mid (place_along way first n) ∙ flag_one (passes (cell_along straight from n)) (runs.free n within) in
    let end = runs.forced is in
    let m : ℕ = end.0 in
    let last : suc m ≡ far.count = end.1.0 in
    record {
      opens = (
        m,
        (
          last,
          opens_from passes straight from mid left right m line_set (there m (omega (arith, last)))
              (there (suc m) (omega (arith, last))) end.1.1,
        ),
      );
      shut = λ n less. shut_from passes straight from mid left right n line_set (there n (omega (arith, less)))
          (there (suc n) (omega (arith, less))) (runs.plain n less);
    }
