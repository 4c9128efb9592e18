-- The best rise from a place, candidate by candidate, and the tables one place further back.
use Rattle.std.proofs.Common.{ℕ, zero, suc, ◌≡◌, ◌+◌, ◌-◌, ◌<◌, ◌≤◌, ◌⊎◌, inl, inr, List, ◌∷◌, Bool, IsTrue, length, get_or, set, sym, ap, ◌∙◌, subst, arith}
use Rattle.std.specs.Prelude.{slice_index}
use Rattle.std.proofs.lemmas.Bool.{cases_eq}
use Rattle.std.proofs.lemmas.Option.{get_or_from_slice_get, slice_get-get_or}
use Rattle.std.proofs.lemmas.List.{length-set, get_or-set_same, get_or-set_other}
use Rattle.nav_types.specs.declared.cells.Cell.{Cell}
use Rattle.nav_types.specs.declared.cells.Size.{Size}
use Rattle.nav_types.specs.Cells.{IsInside}
use Rattle.line_smooth.specs.Segments.{IsClear}
use Rattle.line_smooth.specs.Smoothed.{IsClearBetween, IsRise, IsSmoothed}
use Rattle.line_smooth.specs.inner.Plans.{AreLegsClear, HasHops, AreHopsFrom, IsBestNext, IsLedFrom, ArePlanned, AreRising}
use Rattle.line_smooth.proofs.Sights.{touches_from, touches_to}
use Rattle.line_smooth.proofs.BestPlaces.{sublist_within, smoothed_by_best}

-- the segment between two places that are read is clear where that between the places is
pub clear_between : (passes : Cell → Bool) (places : List Cell) (from next : ℕ) (none : Cell) → IsClear passes (get_or places from none) (get_or places next none)
    → IsClearBetween passes places from next
clear_between passes places from next none clear a b at_a at_b =
    let P = λ (x : Cell). IsClear passes x b in
    let Q = λ (x : Cell). IsClear passes (get_or places from none) x in
    subst P (get_or_from_slice_get places from a none at_a) (subst Q (get_or_from_slice_get places next b none at_b) clear)

pub clear_cells : (passes : Cell → Bool) (places : List Cell) (from next : ℕ) (none : Cell) → from < length places → next < length places
    → IsClearBetween passes places from next → IsClear passes (get_or places from none) (get_or places next none)
clear_cells passes places from next none in_a in_b clear =
    clear (get_or places from none) (get_or places next none) (slice_get-get_or places from none in_a) (slice_get-get_or places next none in_b)

-- the places of a walk are inside the map where it has a leg
place_passes : (passes : Cell → Bool) (places : List Cell) → AreLegsClear passes places → (k : ℕ) (none : Cell) → 1 < length places → k < length places
    → IsTrue (passes (get_or places k none))
place_passes passes places legs zero none long low =
    clear_cells passes places 0 1 none low long (legs 0 long) (get_or places 0 none) (touches_from (get_or places 0 none) (get_or places 1 none))
place_passes passes places legs (suc k) none long low =
    let next : get_or places (k + 1) none ≡ get_or places (suc k) none = ap (λ (n : ℕ). get_or places n none) (omega arith) in
    let P = λ (x : Cell). IsTrue (passes x) in
    subst P next (clear_cells passes places k (k + 1) none (omega arith) (omega arith) (legs k (omega arith)) (get_or places (k + 1) none)
    (touches_to (get_or places k none) (get_or places (k + 1) none)))

pub place_inside : (passes : Cell → Bool) (size : Size) (places : List Cell) → ((cell : Cell) → IsTrue (passes cell) → IsInside size cell)
    → AreLegsClear passes places → (k : ℕ) (none : Cell) → 1 < length places → k < length places → IsInside size (get_or places k none)
place_inside passes size places within legs k none long low = within (get_or places k none) (place_passes passes places legs k none long low)

-- what is known once the candidates from the last one down to this one have been looked at
pub record IsBestSoFar (passes : Cell → Bool) (places : List Cell) (hops : List ℕ) (from next bound at : ℕ) : Type 0 where
  pub rise : IsRise passes places from next
  pub after : from < at
  pub few : at ≤ from + 64
  pub within : at < length places
  pub first : slice_index hops next ≤ slice_index hops (from + 1)
  pub low : slice_index hops next ≤ bound
  pub high : bound ≤ slice_index hops (from + 1) + 1
  pub passed : (slice_index hops next < bound) ⊎ (at < next)
  pub each : (k : ℕ) → at < k → IsRise passes places from k
      → (bound ≤ slice_index hops k) × (slice_index hops k ≡ slice_index hops next → k ≤ next)

pub candidate_kept : (passes : Cell → Bool) (places : List Cell) (hops : List ℕ) (from next bound at : ℕ) → IsBestSoFar passes places hops from next bound at
    → from + 1 < at → (IsRise passes places from at → bound ≤ slice_index hops at) → IsBestSoFar passes places hops from next bound (at - 1)
candidate_kept passes places hops from next bound at so_far more looked =
    let few = so_far.few in let within = so_far.within in let low = so_far.low in record {
      rise = so_far.rise;
      after = omega arith;
      few = omega arith;
      within = omega arith;
      first = so_far.first;
      low = so_far.low;
      high = so_far.high;
      passed = elim so_far.passed [ inl less ↦ inl less | inr behind ↦ inr (omega arith) ];
      each = λ k past rise. elim (cases_eq k at) [
        | inl here ↦
            let P = λ (n : ℕ). IsRise passes places from n in
            let least : bound ≤ slice_index hops at = looked (subst P here rise) in
            let e : slice_index hops k ≡ slice_index hops at = ap (slice_index hops) here in
            (omega arith, λ same. elim so_far.passed [ inl less ↦ absurd (omega arith) | inr behind ↦ omega arith ])
        | inr other ↦ so_far.each k (omega arith) rise
      ];
    }

pub candidate_taken : (passes : Cell → Bool) (places : List Cell) (hops : List ℕ) (from next bound at : ℕ) → IsBestSoFar passes places hops from next bound at
    → from + 1 < at → slice_index hops at < bound → IsClearBetween passes places from at
    → IsBestSoFar passes places hops from at (slice_index hops at) (at - 1)
candidate_taken passes places hops from next bound at so_far more less clear =
    let few = so_far.few in let within = so_far.within in let high = so_far.high in record {
      rise = record { rises = so_far.after; few = few; within = within; clear = clear };
      after = omega arith;
      few = omega arith;
      within = omega arith;
      first = omega arith;
      low = omega arith;
      high = omega arith;
      passed = inr (omega arith);
      each = λ k past rise. elim (cases_eq k at) [
        | inl here ↦
            let e : slice_index hops k ≡ slice_index hops at = ap (slice_index hops) here in
            (omega arith, λ same. omega arith)
        | inr other ↦
            let old = so_far.each k (omega arith) rise in let least : bound ≤ slice_index hops k = old.0 in
            (omega arith, λ same. absurd (omega arith))
      ];
    }

-- a number of smoothed places is below that of all places
pub hops_below : (passes : Cell → Bool) (places : List Cell) (at hops : ℕ) → HasHops passes places at hops → at + hops < length places
hops_below passes places at hops has =
    let within = sublist_within passes places at has.0 has.1.0.sublist in let e = has.1.1 in omega arith

-- the tables with one more place
best_before : (passes : Cell → Bool) (places : List Cell) (hops : List ℕ) (from next : ℕ) → AreHopsFrom passes places hops (from + 1)
    → IsBestNext passes places hops from next → (rest : List ℕ) × (IsSmoothed passes places from (next ∷ rest) × (length rest ≡ slice_index hops next))
best_before passes places hops from next known best =
    let up = best.rise.rises in
    let here = known.each next (omega arith) best.rise.within in
    let is : length here.0 ≡ slice_index hops next = here.1.1 in (
      here.0,
      (
        smoothed_by_best passes places from next here.0 (record {
          rise = best.rise;
          smoothed = here.1.0;
          least = λ at rise.
              (let on = rise.rises in
              let there = known.each at (omega arith) rise.within in
              let there_is : length there.0 ≡ slice_index hops at = there.1.1 in (
                there.0,
                (
                  there.1.0,
                  elim (best.least at rise) [
                    | inl less ↦ inl (omega arith)
                    | inr same ↦ let e = same.0 in inr (omega arith, same.1)
                  ],
                ),
              ));
        }),
        is,
      ),
    )

pub hops_more : (passes : Cell → Bool) (places : List Cell) (hops : List ℕ) (from next : ℕ) → AreHopsFrom passes places hops (from + 1)
    → IsBestNext passes places hops from next → from + 1 < length places
    → AreHopsFrom passes places (set hops from (slice_index hops next + 1)) from
hops_more passes places hops from next known best long =
    let covers = known.covers in record {
      covers = length-set hops from (slice_index hops next + 1) ∙ known.covers;
      each = λ at low high. elim (cases_eq at from) [
        | inl here ↦
            let whole = best_before passes places hops from next known best in
            let value : get_or (set hops from (slice_index hops next + 1)) from 0 ≡ slice_index hops next + 1 = get_or-set_same hops from (slice_index hops next + 1) 0 (omega arith) in
            let is : length whole.0 ≡ slice_index hops next = whole.1.1 in
            let P = λ (n : ℕ). HasHops passes places n (slice_index (set hops from (slice_index hops next + 1)) n) in
            subst P (sym here) (next ∷ whole.0, (whole.1.0, omega arith))
        | inr other ↦
            let value = get_or-set_other hops from at (slice_index hops next + 1) 0 other in
            let P = λ (n : ℕ). HasHops passes places at n in
            subst P (sym value) (known.each at (omega arith) high)
      ];
    }

pub rises_more : (passes : Cell → Bool) (places : List Cell) (hops rises : List ℕ) (from next : ℕ) → AreHopsFrom passes places hops (from + 1)
    → ArePlanned passes places rises (from + 1) → IsBestNext passes places hops from next → from + 1 < length places
    → ArePlanned passes places (set rises from (next - from)) from
rises_more passes places hops rises from next known planned best long =
    let covers = planned.covers in record {
      covers = length-set rises from (next - from) ∙ planned.covers;
      each = λ at low high. elim (cases_eq at from) [
        | inl here ↦
            let whole = best_before passes places hops from next known best in
            let value : get_or (set rises from (next - from)) from 0 ≡ next - from = get_or-set_same rises from (next - from) 0 (omega arith) in
            let up = best.rise.rises in
            let is : next ≡ from + slice_index (set rises from (next - from)) from = omega arith in
            let P = λ (n : ℕ). IsLedFrom passes places (set rises from (next - from)) n in
            let Q = λ (n : ℕ). IsSmoothed passes places from (n ∷ whole.0) in
            subst P (sym here) (whole.0, subst Q is whole.1.0)
        | inr other ↦
            let value = get_or-set_other rises from at (next - from) 0 other in
            let P = λ (n : ℕ). (rest : List ℕ) × IsSmoothed passes places at ((at + n) ∷ rest) in
            subst P (sym value) (planned.each at (omega arith) high)
      ];
    }

-- planned rises go on, and not past the last place
pub rising : (passes : Cell → Bool) (places : List Cell) (rises : List ℕ) → 0 < length places → ArePlanned passes places rises 0 → AreRising (length places) rises
rising passes places rises some planned = record {
  covers = planned.covers;
  some = some;
  on = λ from long. (let led = planned.each from (omega arith) long in let up = led.1.sublist.0.rises in omega arith);
  within = λ from long. (let led = planned.each from (omega arith) long in led.1.sublist.0.within);
}
