-- Entries in the order of their numbers: what is among them, and lists of numbers that rise.
use Rattle.std.proofs.Common.{◌≡◌, ◌↔◌, ℕ, ◌<◌, Bool, true, false, ◌&&◌, cond, T, List, [], ◌∷◌, map, Some, Contains, refl, sym, ap, inl, inr, ◌∙◌, arith}
use Rattle.std.proofs.lemmas.Map.Keys.{IsStrictlyIncreasing-from_sorted, sorted_from_strictly_increasing, below_from_sorted}
use Rattle.std.proofs.lemmas.Option.{same_Some}
use Rattle.std.specs.Cmp.{ranked}
use Rattle.std.specs.FinMap as finite
use Rattle.std.specs.FinMap.{FinMap, find, is_sorted}
use Rattle.std.specs.FinMap.Entries.{below_all}
use Rattle.std.specs.List.{AllByRecursion}
use Rattle.std.specs.List.Sorted.{IsStrictlySortedBy, IsStrictlyIncreasing}
use Rattle.std.specs.Ordering.{nat_cmp, eq_by_cmp, is_lt}
use Rattle.std.specs.declared.cmp.Ordering.{Ordering}
use Rattle.std.specs.declared.cmp.Ordering.TheVariants.{Less, Equal, Greater}
use Rattle.nav_types.proofs.NumberTies.{ties_at, same_at, apart_at}
use Rattle.nav_types.proofs.Items.{Contains-cons_cases, Contains-tail, same_ordered}

-- ---- comparing numbers
less_by : (a b : ℕ) (r : Ordering) → r ≡ nat_cmp a b → T (is_lt r) → a < b
less_by a b Less e is = ranked a b Less e
less_by a b Equal e is = absurd is
less_by a b Greater e is = absurd is

pub less_than : (a b : ℕ) (r : Ordering) → T (is_lt r) → r ≡ Less
less_than a b Less is = refl
less_than a b Equal is = absurd is
less_than a b Greater is = absurd is

pub first : (a b : Bool) → T (a && b) → T a
first true b p = tt
first false b p = p

pub second : (a b : Bool) → T (a && b) → T b
second true b p = p
second false b p = absurd p

-- ---- entries in order
below_listed : {X : Type 0} (x n : ℕ) (v : X) (es : List (ℕ × X)) → T (below_all nat_cmp x es) → Contains es (n, v) → x < n
below_listed x n v [] below listed = absurd (omega (arith, listed.1))
below_listed x n v (e ∷ es) below listed = elim (Contains-cons_cases e es (n, v) listed) [
  | inl here ↦
      let less = less_by x e.0 (nat_cmp x e.0) refl (first _ _ below) in
      let at : e.0 ≡ n = ap (λ p. p.0) here in omega arith
  | inr later ↦ below_listed x n v es (second _ _ below) later
]

found_from_listed : {X : Type 0} (n : ℕ) (v : X) (es : List (ℕ × X)) → T (is_sorted nat_cmp es) → Contains es (n, v)
    → find nat_cmp n es ≡ Some v
found_from_listed n v [] sorted listed = absurd (omega (arith, listed.1))
found_from_listed n v (e ∷ es) sorted listed = elim (Contains-cons_cases e es (n, v) listed) [
  | inl here ↦
      let at : n ≡ e.0 = sym (ap (λ p. p.0) here) in
      ap (λ b. cond b (Some e.1) (find nat_cmp n es)) (ties_at n e.0 at) ∙ ap (λ p. Some p.1) here
  | inr later ↦
      let above = below_listed e.0 n v es (first _ _ sorted) later in
      ap (λ b. cond b (Some e.1) (find nat_cmp n es)) (apart_at n e.0 (λ same. omega arith)) ∙ found_from_listed n v es (second _ _ sorted) later
]

listed_from_found : {X : Type 0} (n : ℕ) (v : X) (es : List (ℕ × X)) → find nat_cmp n es ≡ Some v → Contains es (n, v)
listed_from_found n v [] found = absurd (cc)
listed_from_found {X} n v (e ∷ es) found =
    elim (eq_by_cmp nat_cmp n e.0) as (λ b. eq_by_cmp nat_cmp n e.0 ≡ b → cond b (Some e.1) (find nat_cmp n es) ≡ Some v → Contains (e ∷ es) (n, v)) [
      | true ↦ λ ties is.
          let number = sym (same_at n e.0 ties) in
          let value = same_Some e.1 v is in
          (0, omega arith, λ i. (number i, value i))
      | false ↦ λ ties is. Contains-tail e es (n, v) (listed_from_found n v es is)
    ] refl found

-- an entry is in the map's list exactly where the map has its value under its number
pub Contains-entries : {X : Type 0} (m : FinMap nat_cmp X) (n : ℕ) (v : X)
    → Contains (finite.entries m) (n, v) ↔ (finite.get m n ≡ Some v)
Contains-entries m n v = (
  λ listed. finite.get-entries m n ∙ found_from_listed n v (finite.entries m) (finite.entries_sorted m) listed,
  λ found. listed_from_found n v (finite.entries m) (sym (finite.get-entries m n) ∙ found),
)

keys_below : {X : Type 0} (x : ℕ) (es : List (ℕ × X)) → T (below_all nat_cmp x es)
    → AllByRecursion (λ y. nat_cmp x y ≡ Less) (map (λ e. e.0) es)
keys_below x [] below = tt
keys_below x (e ∷ es) below = (less_than x e.0 (nat_cmp x e.0) (first _ _ below), keys_below x es (second _ _ below))

keys_sorted : {X : Type 0} (es : List (ℕ × X)) → T (is_sorted nat_cmp es) → IsStrictlySortedBy nat_cmp (map (λ e. e.0) es)
unfolding IsStrictlySortedBy
keys_sorted [] sorted = tt
keys_sorted (e ∷ es) sorted = (keys_below e.0 es (first _ _ sorted), keys_sorted es (second _ _ sorted))

-- the numbers of a map's entries rise
pub IsStrictlyIncreasing-keys : {X : Type 0} (m : FinMap nat_cmp X) → IsStrictlyIncreasing (finite.keys m)
IsStrictlyIncreasing-keys m =
    IsStrictlyIncreasing-from_sorted (finite.keys m) (keys_sorted (finite.entries m) (finite.entries_sorted m))

-- ---- rising lists
-- two rising lists of the same numbers are equal
pub same_rising : (xs ys : List ℕ) → IsStrictlyIncreasing xs → IsStrictlyIncreasing ys
    → ((n : ℕ) → Contains xs n → Contains ys n) → ((n : ℕ) → Contains ys n → Contains xs n) → xs ≡ ys
same_rising xs ys rises rises' to from =
    same_ordered (λ (m n : ℕ). m < n) (λ m n less more. absurd (omega arith)) xs ys
    (λ i j d earlier inside. below_from_sorted xs i j d (sorted_from_strictly_increasing xs rises) earlier inside)
    (λ i j d earlier inside. below_from_sorted ys i j d (sorted_from_strictly_increasing ys rises') earlier inside) to from
