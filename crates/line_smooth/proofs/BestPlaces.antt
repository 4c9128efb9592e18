-- The smoothed places from one place on, by those from the places after it.
use Rattle.std.proofs.Common.{ℕ, ◌≡◌, ◌+◌, ◌<◌, ◌≤◌, ◌⊎◌, inl, inr, List, [], ◌∷◌, Bool, Some, length, map, refl, sym, ap, ◌∙◌, subst, arith}
use Rattle.std.specs.Prelude.{slice_get, slice_index}
use Rattle.std.proofs.lemmas.Bool.{cases_order}
use Rattle.nav_types.specs.declared.cells.Cell.{Cell}
use Rattle.line_smooth.specs.Smoothed.{IsRise, IsSublist, IsLater, IsSmoothed, IsSmoothing}
use Rattle.line_smooth.specs.inner.Plans.{ArePlanned, Follows}

-- the last place has none after it
pub smoothed_last : (passes : Cell → Bool) (places : List Cell) (from : ℕ) → from + 1 ≡ length places → IsSmoothed passes places from []
smoothed_last passes places from last = record { sublist = last; fewest = λ other sub. omega arith; latest = λ other sub same. tt }

-- lists of places go up to the last one
pub sublist_within : (passes : Cell → Bool) (places : List Cell) (from : ℕ) (kept : List ℕ) → IsSublist passes places from kept → from + length kept < length places
sublist_within passes places from [] sub = omega (arith, sub)
sublist_within passes places from (next ∷ rest) sub =
    let rise = sub.0.rises in let later = sublist_within passes places next rest sub.1 in omega arith

-- what follows a rise to the place with the fewest places after it, and to the last of those
pub record IsBestBefore (passes : Cell → Bool) (places : List Cell) (from next : ℕ) (rest : List ℕ) : Type 0 where
  pub rise : IsRise passes places from next
  pub smoothed : IsSmoothed passes places next rest
  pub least : (at : ℕ) → IsRise passes places from at → (others : List ℕ) × (IsSmoothed passes places at others
      × ((length rest < length others) ⊎ ((length rest ≡ length others) × (at ≤ next))))

best_fewest : (passes : Cell → Bool) (places : List Cell) (from next : ℕ) (rest : List ℕ) → IsBestBefore passes places from next rest
    → (other : List ℕ) → IsSublist passes places from other → length (next ∷ rest) ≤ length other
best_fewest passes places from next rest best [] sub =
    let rise = best.rise.rises in let within = best.rise.within in absurd (omega (arith, sub))
best_fewest passes places from next rest best (at ∷ other) sub =
    let there = best.least at sub.0 in
    let fewest = there.1.0.fewest other sub.1 in
    elim there.1.1 [ inl less ↦ omega arith | inr same ↦ let e = same.0 in omega arith ]

best_latest : (passes : Cell → Bool) (places : List Cell) (from next : ℕ) (rest : List ℕ) → IsBestBefore passes places from next rest
    → (other : List ℕ) → IsSublist passes places from other → length other ≡ length (next ∷ rest) → IsLater (next ∷ rest) other
best_latest passes places from next rest best [] sub same = tt
best_latest passes places from next rest best (at ∷ other) sub same =
    let there = best.least at sub.0 in
    let fewest = there.1.0.fewest other sub.1 in
    elim there.1.1 [
      | inl less ↦ absurd (omega arith)
      | inr equal ↦
          elim (cases_order at next) [
            | inl here ↦
                let P = λ (n : ℕ). IsSublist passes places n other in
                inr (sym here, best.smoothed.latest other (subst P here sub.1) (omega arith))
            | inr order ↦ elim order [ inl before ↦ inl before | inr behind ↦ let low = equal.1 in absurd (omega arith) ]
          ]
    ]

pub smoothed_by_best : (passes : Cell → Bool) (places : List Cell) (from next : ℕ) (rest : List ℕ) → IsBestBefore passes places from next rest
    → IsSmoothed passes places from (next ∷ rest)
smoothed_by_best passes places from next rest best = record {
  sublist = (best.rise, best.smoothed.sublist);
  fewest = best_fewest passes places from next rest best;
  latest = best_latest passes places from next rest best;
}

-- what follows the first of the smoothed places are those from there on
later_tail : (next : ℕ) (rest other : List ℕ) → IsLater (next ∷ rest) (next ∷ other) → IsLater rest other
later_tail next rest other (inl less) = absurd (omega (arith, less))
later_tail next rest other (inr tail) = tail.1

pub smoothed_tail : (passes : Cell → Bool) (places : List Cell) (from next : ℕ) (rest : List ℕ) → IsSmoothed passes places from (next ∷ rest)
    → IsSmoothed passes places next rest
smoothed_tail passes places from next rest whole = record {
  sublist = whole.sublist.1;
  fewest = λ other sub. (let longer = whole.fewest (next ∷ other) (whole.sublist.0, sub) in omega arith);
  latest = λ other sub same. later_tail next rest other (whole.latest (next ∷ other) (whole.sublist.0, sub) (omega arith));
}

-- the smoothed places are one list
same_later : (xs ys : List ℕ) → length xs ≡ length ys → IsLater xs ys → IsLater ys xs → xs ≡ ys
same_later [] [] same p q = refl
same_later [] (y ∷ ys) same p q = absurd (omega (arith, same))
same_later (x ∷ xs) [] same p q = absurd (omega (arith, same))
same_later (x ∷ xs) (y ∷ ys) same (inl p) (inl q) = absurd (omega (arith, p, q))
same_later (x ∷ xs) (y ∷ ys) same (inl p) (inr q) = let e = q.0 in absurd (omega (arith, p))
same_later (x ∷ xs) (y ∷ ys) same (inr p) (inl q) = let e = p.0 in absurd (omega (arith, q))
same_later (x ∷ xs) (y ∷ ys) same (inr p) (inr q) =
    let head : x ≡ y = p.0 in
    let tail : xs ≡ ys = same_later xs ys (omega (arith, same)) p.1 q.1 in
    cc

pub smoothed_unique : (passes : Cell → Bool) (places : List Cell) (from : ℕ) (xs ys : List ℕ) → IsSmoothed passes places from xs → IsSmoothed passes places from ys → xs ≡ ys
smoothed_unique passes places from xs ys p q =
    let a : length xs ≤ length ys = p.fewest ys q.sublist in
    let b : length ys ≤ length xs = q.fewest xs p.sublist in
    same_later xs ys (omega arith) (p.latest ys q.sublist (omega arith)) (q.latest xs p.sublist (omega arith))

same_points : (xs ys : List Cell) → map (λ point. Some point) xs ≡ map (λ point. Some point) ys → xs ≡ ys
same_points [] [] same = refl
same_points [] (y ∷ ys) same = absurd cc
same_points (x ∷ xs) [] same = absurd cc
same_points (x ∷ xs) (y ∷ ys) same =
    let head : x ≡ y = cc in
    let tail : map (λ point. Some point) xs ≡ map (λ point. Some point) ys = cc in
    let rest : xs ≡ ys = same_points xs ys tail in
    cc

pub one_smoothing : (passes : Cell → Bool) (start : Cell) (corners xs ys : List Cell) → IsSmoothing passes start corners xs → IsSmoothing passes start corners ys → xs ≡ ys
one_smoothing passes start corners xs ys p q =
    let kept : p.kept ≡ q.kept = smoothed_unique passes (start ∷ corners) 0 p.kept q.kept p.smoothed q.smoothed in
    same_points xs ys (sym p.placed ∙ (ap (λ (ks : List ℕ). map (λ place. slice_get (start ∷ corners) place) ks) kept ∙ q.placed))

-- the places that the planned rises lead to are the smoothed ones
pub followed_smoothed : (passes : Cell → Bool) (places : List Cell) (rises : List ℕ) → ArePlanned passes places rises 0 → (from : ℕ) (kept : List ℕ)
    → Follows (length places) rises from kept → IsSmoothed passes places from kept
followed_smoothed passes places rises planned from [] follows = smoothed_last passes places from follows
followed_smoothed passes places rises planned from (next ∷ rest) follows =
    let led = planned.each from (omega arith) follows.0 in
    let next_is : next ≡ from + slice_index rises from = follows.1.0 in
    let later = smoothed_tail passes places from (from + slice_index rises from) led.0 led.1 in
    let P = λ (n : ℕ). IsSmoothed passes places n led.0 in
    let here : IsSmoothed passes places next led.0 = subst P (sym next_is) later in
    let there : IsSmoothed passes places next rest = followed_smoothed passes places rises planned next rest follows.1.1 in
    let same : led.0 ≡ rest = smoothed_unique passes places next led.0 rest here there in
    let Q = λ (n : ℕ). IsSmoothed passes places from (n ∷ rest) in
    let R = λ (ks : List ℕ). IsSmoothed passes places from ((from + slice_index rises from) ∷ ks) in
    subst Q (sym next_is) (subst R same led.1)
