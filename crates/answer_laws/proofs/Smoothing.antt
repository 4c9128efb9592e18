-- The smoothed waypoints of a walk.
use Rattle.std.proofs.Common.{ℕ, zero, suc, ◌≡◌, ◌+◌, ◌*◌, ◌<◌, ◌≤◌, ◌⊎◌, Bool, Option, Some, None, List, [], ◌∷◌, length, map, get_or, IsTrue, refl, inl, inr, sym, subst, arith}
use Rattle.std.specs.Prelude.{IsFalse}
use Rattle.std.specs.List.{Contains, slice_get}
use Rattle.std.proofs.lemmas.Bool.{cases_eq, cases_lt, cases_order, both_ways, true_from_ne_false, false_from_ne_true}
use Rattle.std.proofs.lemmas.Option.{same_Some, slice_get-get_or}
use Rattle.nav_types.specs.declared.cells.Cell.{Cell}
use Rattle.nav_types.specs.Cells.{cell_at}
use Rattle.nav_types.proofs.Items.{Contains-map}
use Rattle.line_smooth.specs.Segments.{gap, Touches, IsClear}
use Rattle.line_smooth.specs.Smoothed.{IsClearBetween, IsRise, IsSublist, IsSmoothed, AreCorners, IsSmoothing}
use Rattle.line_smooth.specs.inner.Plans.{AreLegsClear}
use Rattle.line_smooth.proofs.BestPlaces.{smoothed_last, IsBestBefore, smoothed_by_best}
use Rattle.line_smooth.proofs.Legs.{clear_legs}
use Rattle.answer_laws.proofs.Deciding.{Decided, decided_test, decided_both, decided_not, decided_as, decided_some, BestIn, best_in}
use Rattle.answer_laws.proofs.Distances.{decided_same_number, decided_less}
use Rattle.answer_laws.proofs.Listing.{below, in_below, gathered, in_gathered}

pub decided_most : (a b : ℕ) → Decided (a ≤ b)
decided_most a b = elim (cases_lt b a) [ inl more ↦ inr (λ most. omega (arith, more, most)) | inr most ↦ inl most ]

decided_touches : (from to cell : Cell) → Decided (Touches from to cell)
decided_touches from to cell = decided_as
    {P = (gap from.i cell.i + gap cell.i to.i ≡ gap from.i to.i) × ((gap from.j cell.j + gap cell.j to.j ≡ gap from.j to.j)
    × (2 * gap (gap from.i to.i * gap from.j cell.j) (gap from.j to.j * gap from.i cell.i) ≤ gap from.i to.i + gap from.j to.j))}
    (λ all. record { columns = all.0; rows = all.1.0; near = all.1.1 }) (λ touches. (touches.columns, (touches.rows, touches.near)))
    (decided_both (decided_same_number (gap from.i cell.i + gap cell.i to.i) (gap from.i to.i))
    (decided_both (decided_same_number (gap from.j cell.j + gap cell.j to.j) (gap from.j to.j))
    (decided_most (2 * gap (gap from.i to.i * gap from.j cell.j) (gap from.j to.j * gap from.i cell.i)) (gap from.i to.i + gap from.j to.j))))

-- the cells of a block of columns and rows
pub block : ℕ → ℕ → List Cell
block columns rows = gathered (λ j. map (λ i. cell_at i j) (below columns)) (below rows)

pub in_block : (columns rows : ℕ) (cell : Cell) → cell.i < columns → cell.j < rows → Contains (block columns rows) cell
unfolding block
in_block columns rows cell column row =
    in_gathered (λ j. map (λ i. cell_at i j) (below columns)) (below rows) cell.j cell (in_below rows cell.j row)
    (Contains-map (λ i. cell_at i cell.j) (below columns) cell.i (in_below columns cell.i column))

touched_low : (a b c : ℕ) → gap a c + gap c b ≡ gap a b → c < a + b + 1
touched_low a b c between = omega (arith, between)

not_passing : (b : Bool) → (IsTrue b → ⊥) → IsFalse b
not_passing b fails = false_from_ne_true b fails

decided_clear : (passes : Cell → Bool) (from to : Cell) → Decided (IsClear passes from to)
decided_clear passes from to =
    let Blocks : Cell → Type 0 = λ cell. Touches from to cell × IsFalse (passes cell) in
    decided_as {P = ((cell : Cell) × Blocks cell) → ⊥}
    (λ none cell touches. true_from_ne_false (passes cell) (λ shut. none (cell, (touches, shut))))
    (λ clear some. both_ways (passes some.0) some.1.1 (clear some.0 some.1.0))
    (decided_not (decided_some Blocks
    (λ cell. decided_both (decided_touches from to cell)
    (elim (decided_test (passes cell)) [
      | inl passing ↦ inr (λ shut. both_ways (passes cell) shut passing)
      | inr fails ↦ inl (not_passing (passes cell) fails)
    ]))
    (block (from.i + to.i + 1) (from.j + to.j + 1))
    (λ cell blocks. in_block (from.i + to.i + 1) (from.j + to.j + 1) cell
    (touched_low from.i to.i cell.i blocks.0.columns) (touched_low from.j to.j cell.j blocks.0.rows))))

decided_between : (passes : Cell → Bool) (one other : Option Cell)
    → Decided ((a b : Cell) → one ≡ Some a → other ≡ Some b → IsClear passes a b)
decided_between passes None other = inl (λ a b is_a is_b. absurd cc)
decided_between passes (Some x) None = inl (λ a b is_a is_b. absurd cc)
decided_between passes (Some x) (Some y) = decided_as
    (λ clear a b is_a is_b. subst (λ (c : Cell). IsClear passes c b) (same_Some x a is_a)
    (subst (λ (c : Cell). IsClear passes x c) (same_Some y b is_b) clear))
    (λ all. all x y refl refl) (decided_clear passes x y)

decided_rise : (passes : Cell → Bool) (places : List Cell) (from next : ℕ) → Decided (IsRise passes places from next)
decided_rise passes places from next = decided_as
    {P = (from < next) × ((next ≤ from + 64) × ((next < length places) × IsClearBetween passes places from next))}
    (λ all. record { rises = all.0; few = all.1.0; within = all.1.1.0; clear = all.1.1.1 })
    (λ rise. (rise.rises, (rise.few, (rise.within, rise.clear))))
    (decided_both (decided_less from next) (decided_both (decided_most next (from + 64))
    (decided_both (decided_less next (length places)) (decided_between passes (slice_get places from) (slice_get places next)))))

-- fewer, or as many and no earlier
no_worse_total : (m n a b : ℕ) → ((m < n) ⊎ ((m ≡ n) × (b ≤ a))) ⊎ ((n < m) ⊎ ((n ≡ m) × (a ≤ b)))
no_worse_total m n a b = elim (cases_order m n) [
  | inl same ↦ elim (cases_lt a b) [ inl less ↦ inr (inr (sym same, omega (arith, less))) | inr more ↦ inl (inr (same, more)) ]
  | inr other ↦ elim other [ inl less ↦ inl (inl less) | inr more ↦ inr (inl more) ]
]

no_worse_on : (m n k a b c : ℕ) → (m < n) ⊎ ((m ≡ n) × (b ≤ a)) → (n < k) ⊎ ((n ≡ k) × (c ≤ b)) → (m < k) ⊎ ((m ≡ k) × (c ≤ a))
no_worse_on m n k a b c (inl one) (inl two) = inl (omega (arith, one, two))
no_worse_on m n k a b c (inl one) (inr two) = inl (omega (arith, one, two.0))
no_worse_on m n k a b c (inr one) (inl two) = inl (omega (arith, one.0, two))
no_worse_on m n k a b c (inr one) (inr two) = inr (omega (arith, one.0, two.0), omega (arith, one.1, two.1))

least_as : (m n x y at next : ℕ) → x ≡ m → y ≡ n → (m < n) ⊎ ((m ≡ n) × (at ≤ next)) → (x < y) ⊎ ((x ≡ y) × (at ≤ next))
least_as m n x y at next is_m is_n (inl less) = inl (omega (arith, is_m, is_n, less))
least_as m n x y at next is_m is_n (inr same) = inr (omega (arith, is_m, is_n, same.0), same.1)

above_of : (a b : ℕ) → a ≤ b → (a ≡ b → ⊥) → a < b
above_of a b most other = elim (cases_lt a b) [ inl less ↦ less | inr more ↦ absurd (other (omega (arith, most, more))) ]

zero_below : (start : Cell) (corners : List Cell) → 0 < length (start ∷ corners)
zero_below start corners = omega arith

module _ (passes : Cell → Bool) (places : List Cell) (legs : AreLegsClear passes places) where
  -- there are smoothed places from the one place on
  abbrev HasPlaces : ℕ → Type 0
  HasPlaces from = (kept : List ℕ) × IsSmoothed passes places from kept

  abbrev AfterRise : ℕ → ℕ → Type 0
  AfterRise from at = HasPlaces at ⊎ (IsRise passes places from at → ⊥)

  -- how many there are after a rise
  abbrev hops : (from at : ℕ) → AfterRise from at → ℕ
  hops from at (inl has) = length has.0
  hops from at (inr none) = 0

  hops_kept : (from at : ℕ) (after : AfterRise from at) → IsRise passes places from at
      → (kept : List ℕ) × (IsSmoothed passes places at kept × (length kept ≡ hops from at after))
  hops_kept from at (inl has) rise = (has.0, (has.1, refl))
  hops_kept from at (inr none) rise = absurd (none rise)

  -- the next place rises to the one after it
  next_rise : (from : ℕ) → from + 1 < length places → IsRise passes places from (from + 1)
  next_rise from within = record { rises = omega arith; few = omega arith; within = within; clear = legs from within }

  best_from : (from : ℕ) → from + 1 < length places → ((at : ℕ) → from < at → at < length places → HasPlaces at) → HasPlaces from
  best_from from within later =
      let after : (at : ℕ) → AfterRise from at = λ at. elim (decided_rise passes places from at) [
        | inl rise ↦ inl (later at rise.rises rise.within)
        | inr none ↦ inr none
      ] in
      let many : ℕ → ℕ = λ at. hops from at (after at) in
      let NoWorse : ℕ → ℕ → Type 0 = λ a b. (many a < many b) ⊎ ((many a ≡ many b) × (b ≤ a)) in
      let best : BestIn (IsRise passes places from) NoWorse (below (length places)) =
      best_in (IsRise passes places from) NoWorse (decided_rise passes places from)
      (λ a b. no_worse_total (many a) (many b) a b) (λ a b c one two. no_worse_on (many a) (many b) (many c) a b c one two)
      (below (length places)) in
      elim best [
        | inr none ↦ absurd (none (from + 1) (in_below (length places) (from + 1) within) (next_rise from within))
        | inl found ↦
            let next = found.0 in
            let rest = hops_kept from next (after next) found.1.0 in
            let best_before : IsBestBefore passes places from next rest.0 = record {
              rise = found.1.0;
              smoothed = rest.1.0;
              least = λ at rise.
                  (let other = hops_kept from at (after at) rise in (
                    other.0,
                    (
                      other.1.0,
                      least_as (many next) (many at) (length rest.0) (length other.0) at next rest.1.1 other.1.1
                          (found.1.1 at (in_below (length places) at rise.within) rise),
                    ),
                  ));
            } in
            (next ∷ rest.0, smoothed_by_best passes places from next rest.0 best_before)
      ]

  places_from : (left from : ℕ) → length places ≤ from + 1 + left → from < length places → HasPlaces from
  places_from zero from enough within = ([], smoothed_last passes places from (omega (arith, enough, within)))
  places_from (suc left) from enough within = elim (cases_eq (from + 1) (length places)) [
    | inl last ↦ ([], smoothed_last passes places from last)
    | inr other ↦ best_from from (above_of (from + 1) (length places) (omega (arith, within)) other)
        (λ at behind inside. places_from left at (omega (arith, enough, behind)) inside)
  ]

  points_of : (kept : List ℕ) (from : ℕ) → IsSublist passes places from kept
      → (points : List Cell) × (map (λ place. slice_get places place) kept ≡ map (λ point. Some point) points)
  points_of [] from sub = ([], refl)
  points_of (next ∷ kept) from sub =
      let none : Cell = cell_at 0 0 in
      let head : slice_get places next ≡ Some (get_or places next none) = slice_get-get_or places next none sub.0.within in
      let rest = points_of kept next sub.1 in
      let tail = rest.1 in
      (get_or places next none ∷ rest.0, cc)

pub smoothing : (passes : Cell → Bool) (start : Cell) (corners : List Cell) → AreCorners passes start corners
    → (points : List Cell) × IsSmoothing passes start corners points
smoothing passes start corners are =
    let places : List Cell = start ∷ corners in
    let legs = clear_legs passes start corners are in
    let kept = places_from passes places legs (length places) 0 (omega arith) (zero_below start corners) in
    let points = points_of passes places legs kept.0 0 kept.1.sublist in
    (points.0, record { kept = kept.0; smoothed = kept.1; placed = points.1 })
