-- The numbers below a bound, each once, in any order, and through another order.
use Rattle.std.proofs.Common.{ℕ, ◌≡◌, ◌≢◌, ◌+◌, ◌<◌, List, [], ◌∷◌, ◌++◌, length, get_or, inl, inr, sym, ◌∙◌, subst, arith}
use Rattle.std.specs.Prelude.{Contains, slice_index}
use Rattle.std.specs.List.Sorted.{IsPermutation}
use Rattle.std.proofs.Math.Dec.{eqb}
use Rattle.std.proofs.lemmas.Bool.{cases_eq, cases_lt, eqb-false, eq-eqb, ne_eqb}
use Rattle.std.proofs.lemmas.List.{get_or_default}
use Rattle.std.proofs.lemmas.List.Sorted.{Contains-permutation, IsPermutation-sym}
use Rattle.std.proofs.lemmas.List.Elements.{Contains-get_or, Contains-append_left, Contains-append_right, Contains-append_cases}
use Rattle.std.proofs.lemmas.Map.Keys.{IsDistinct-IsPermutation, IsDistinct-from_apart, apart_from_distinct}
use Rattle.std.specs.List.{IsDistinct}
use Rattle.nav_types.specs.Counting.{Lists}
use Rattle.nav_types.proofs.Items.{IsOnce, Contains-head, Contains-none, Contains-map, Contains-cons_cases, from_map, AllPairs-append, AllPairs-map}
use Rattle.path_workers.specs.inner.Ranking.{jobs_at}

eqb_flips : (a b : ℕ) → eqb a b ≡ eqb b a
eqb_flips a b = elim (cases_eq a b) [
  | inl same ↦ eq-eqb a b same ∙ sym (eq-eqb b a (sym same))
  | inr differ ↦ ne_eqb a b differ ∙ sym (ne_eqb b a (λ same. differ (sym same)))
]

once_permuted : (xs ys : List ℕ) → IsPermutation xs ys → IsOnce xs → IsOnce ys
once_permuted xs ys moved once = λ i j d less within same.
    let distinct : IsDistinct eqb ys = IsDistinct-IsPermutation eqb eqb_flips xs ys moved
    (IsDistinct-from_apart eqb xs (λ p q e before inside. ne_eqb (get_or xs p e) (get_or xs q e) (once p q e before inside))) in
    eqb-false (get_or ys i d) (get_or ys j d) (apart_from_distinct eqb ys i j d distinct less within) same

-- what is listed, in another order
pub Lists-permuted : (Kind : ℕ → Type 0) (xs ys : List ℕ) → IsPermutation xs ys → Lists Kind xs → Lists Kind ys
Lists-permuted Kind xs ys moved lists = record {
  each = λ a inside. lists.each a (Contains-permutation ys xs a (IsPermutation-sym xs ys moved) inside);
  all = λ a is. Contains-permutation xs ys a moved (lists.all a is);
  once = once_permuted xs ys moved lists.once;
}

-- the only number of a list of one
only : (n a : ℕ) → Contains (n ∷ []) a → n ≡ a
only n a inside = elim (Contains-cons_cases n [] a inside) [
  | inl same ↦ same
  | inr none ↦ absurd (Contains-none a none)
]

-- one number more
pub Lists-more : (n : ℕ) (xs : List ℕ) → Lists (λ k. k < n) xs → Lists (λ k. k < n + 1) (xs ++ n ∷ [])
Lists-more n xs lists = record {
  each = λ a inside. elim (Contains-append_cases xs (n ∷ []) a inside) [
    | inl here ↦ let low = lists.each a here in omega (arith, low)
    | inr there ↦ let same : n ≡ a = only n a there in omega (arith, same)
  ];
  all = λ a low. elim (cases_eq a n) [
    | inl same ↦ subst (λ k. Contains (xs ++ n ∷ []) k) (sym same) (Contains-append_right xs (n ∷ []) n (Contains-head n []))
    | inr differ ↦ Contains-append_left xs (n ∷ []) a (lists.all a (omega (arith, low, differ)))
  ];
  once = AllPairs-append (λ a b. a ≢ b) xs (n ∷ []) lists.once (λ i j d less within. absurd (omega (arith, less, within)))
      (λ a b in_a in_b same.
      let low = lists.each a in_a in
      let is : n ≡ b = only n b in_b in
      omega (arith, low, same, is));
}

-- an order holds other numbers at other places
apart_at : (order : List ℕ) → IsOnce order → (a b : ℕ) → a < length order → b < length order → a ≢ b → slice_index order a ≢ slice_index order b
apart_at order once a b low_a low_b differ same = elim (cases_lt a b) [
  | inl less ↦ once a b 0 less low_b same
  | inr more ↦ once b a 0 (omega (arith, more, differ)) low_a (sym same)
]

-- what stands in an order at all its places, each once, is what is listed there
pub Lists-through : (Kind : ℕ → Type 0) (order places : List ℕ) → Lists Kind order → Lists (λ place. place < length order) places
    → Lists Kind (jobs_at order places)
Lists-through Kind order places lists all = record {
  each = λ a inside.
      let from = from_map (slice_index order) places a inside in
      let low = all.each from.0 from.1.0 in
      subst Kind from.1.1 (lists.each (slice_index order from.0) (Contains-get_or order from.0 0 low));
  all = λ a is.
      let has = lists.all a is in
      let stands : slice_index order has.0 ≡ a = get_or_default order has.0 0 a has.1 ∙ has.2 in
      subst (λ job. Contains (jobs_at order places) job) stands (Contains-map (slice_index order) places has.0 (all.all has.0 has.1));
  once = AllPairs-map (λ a b. a ≢ b) (λ a b. a ≢ b) (slice_index order) places all.once
      (λ a b in_a in_b differ. apart_at order lists.once a b (all.each a in_a) (all.each b in_b) differ);
}
