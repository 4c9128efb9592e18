-- The bound to a span falls by at most what a step costs.
use Rattle.std.proofs.Common.{ℕ, zero, suc, ◌≡◌, ◌+◌, ◌*◌, ◌<◌, ◌≤◌, Bool, List, IsTrue, length, get_or, set, max, inl, inr, refl, sym, ap, ◌∙◌, add-one, arith}
use Rattle.std.specs.Int.{abs_diff}
use Rattle.std.proofs.lemmas.Bool.{cases_eq}
use Rattle.std.proofs.lemmas.List.{get_or-set_same, get_or-set_other}
use Rattle.nav_types.specs.declared.cells.Cell.{Cell}
use Rattle.nav_types.specs.declared.directions.Dir.{Dir}
use Rattle.nav_types.specs.Directions.{step_cost}
use Rattle.nav_types.specs.Walks.{Step}
use Rattle.landmarks.specs.declared.units.TheConstants.{UNIT_COST}
use Rattle.landmarks.specs.declared.spans.NumberSpan.{NumberSpan}
use Rattle.landmarks.specs.Landmarks.{Tables, AreGentle, number_of, most_apart}
use Rattle.landmarks.specs.Spans.{IsSpanned, IsSpanOf, IsWidened, outside, greatest_outside, span_bound}
use Rattle.landmarks.proofs.Bounds.{legal_before, costs_falls, units_cost}

pub span_of_spans : (tables : Tables) (cell : Cell) (span : NumberSpan) → IsSpanOf tables cell span → IsSpanned tables span cell
span_of_spans tables cell span is = record {
  least = λ table below. omega (arith, is.least table below);
  greatest = λ table below. omega (arith, is.greatest table below);
}

pub widened_spans : (tables : Tables) (cell other : Cell) (old new : NumberSpan) → IsWidened tables cell old new
    → IsSpanned tables new cell × (IsSpanned tables old other → IsSpanned tables new other)
widened_spans tables cell other old new wide = (
  record {
    least = λ table below. omega (arith, wide.least table below);
    greatest = λ table below. omega (arith, wide.greatest table below);
  },
  (λ was. record {
    least = λ table below. omega (arith, wide.least table below, was.least table below);
    greatest = λ table below. omega (arith, wide.greatest table below, was.greatest table below);
  }),
)

none_outside : (g least greatest number : ℕ) → g ≡ 0 → least ≤ number → number ≤ greatest → max g (outside least greatest number) ≡ 0
none_outside g least greatest number none low high = omega arith

spanned_outside : (tables : Tables) (span : NumberSpan) (cell : Cell) (n : ℕ) → n ≤ 8 → IsSpanned tables span cell
    → greatest_outside tables span cell n ≡ 0
spanned_outside tables span cell zero few spanned = refl
spanned_outside tables span cell (suc table) few spanned = none_outside (greatest_outside tables span cell table)
    (get_or span.least table 0) (get_or span.greatest table 0) (number_of tables cell table)
    (spanned_outside tables span cell table (omega arith) spanned)
    (spanned.least table (omega arith)) (spanned.greatest table (omega arith))

pub span_bound_of_spanned : (tables : Tables) (span : NumberSpan) (cell : Cell) → IsSpanned tables span cell → span_bound tables span cell ≡ 0
unfolding span_bound
span_bound_of_spanned tables span cell spanned = ap (λ (g : ℕ). UNIT_COST * g) (spanned_outside tables span cell 8 (omega arith) spanned)

further : (g h least greatest a b d : ℕ) → g ≤ h + d → abs_diff a b ≤ d
    → max g (outside least greatest a) ≤ max h (outside least greatest b) + d
further g h least greatest a b d first near = omega arith

outside_falls : (tables : Tables) (span : NumberSpan) (from next : Cell) (d n : ℕ) → n ≤ 8
    → ((table : ℕ) → table < 8 → abs_diff (number_of tables from table) (number_of tables next table) ≤ d)
    → greatest_outside tables span from n ≤ greatest_outside tables span next n + d
outside_falls tables span from next d zero few near = omega arith
outside_falls tables span from next d (suc table) few near = further
    (greatest_outside tables span from table) (greatest_outside tables span next table)
    (get_or span.least table 0) (get_or span.greatest table 0) (number_of tables from table) (number_of tables next table) d
    (outside_falls tables span from next d table (omega arith) near) (near table (omega arith))

pub span_bound_falls : (tables : Tables) (span : NumberSpan) (passes later : Cell → Bool) (dir : Dir) (from next : Cell) → AreGentle passes tables
    → ((cell : Cell) → IsTrue (later cell) → IsTrue (passes cell)) → Step later dir from next
    → span_bound tables span from ≤ step_cost dir + span_bound tables span next
unfolding span_bound
span_bound_falls tables span passes later dir from next gentle fewer step =
    let legal = legal_before passes later dir from next fewer step in
    costs_falls (greatest_outside tables span from 8) (greatest_outside tables span next 8) (most_apart dir) (step_cost dir)
    (outside_falls tables span from next (most_apart dir) 8 (omega arith) (λ table below. gentle.steps dir from next table below legal))
    (units_cost dir)

-- one table more
pub outside_more : (tables : Tables) (span : NumberSpan) (cell : Cell) (n : ℕ) → greatest_outside tables span cell (n + 1)
    ≡ max (greatest_outside tables span cell n) (outside (get_or span.least n 0) (get_or span.greatest n 0) (number_of tables cell n))
outside_more tables span cell n = ap (λ (k : ℕ). greatest_outside tables span cell k) (add-one n)

-- a place more of a list has what is wanted of it
pub one_more : (list : List ℕ) (wanted : ℕ → ℕ) (at x : ℕ) → at < length list → x ≡ wanted at
    → ((k : ℕ) → k < at → get_or list k 0 ≡ wanted k) → (k : ℕ) → k < at + 1 → get_or (set list at x) k 0 ≡ wanted k
one_more list wanted at x within is before k below = elim (cases_eq k at) [
  | inl same ↦ ap (λ (n : ℕ). get_or (set list at x) n 0) same ∙ (get_or-set_same list at x 0 within ∙ (is ∙ ap wanted (sym same)))
  | inr other ↦ get_or-set_other list at k x 0 other ∙ before k (omega (arith, below, other))
]
