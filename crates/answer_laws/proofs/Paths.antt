-- Paths of edges with costs, by the things that they may pass between their ends, and the least cost of one.
use Rattle.std.proofs.Common.{ℕ, ◌≡◌, ◌+◌, ◌≤◌, ◌⊎◌, List, [], ◌∷◌, refl, inl, inr, sym, subst, arith}
use Rattle.std.specs.List.{Contains}
use Rattle.nav_types.proofs.Items.{Contains-cons_cases, Contains-none}
use Rattle.answer_laws.proofs.Deciding.{Decided, LeastNumber, least_of_either, least_of_sums, IsSumOf}

-- the cost of a path that has no edge or one
abbrev pub IsShort : {A : Type 0} → (A → A → ℕ → Type 0) → A → A → ℕ → Type 0
IsShort {A} Edge a b c = ((a ≡ b) × (c ≡ 0)) ⊎ Edge a b c

-- the cost of a path that is made of short ones, put together at things of the list
abbrev pub IsVia : {A : Type 0} → (A → A → ℕ → Type 0) → List A → A → A → ℕ → Type 0
IsVia {A} Edge [] a b c = IsShort Edge a b c
IsVia {A} Edge (x ∷ xs) a b c = IsVia Edge xs a b c ⊎ IsSumOf (IsVia Edge xs a x) (IsVia Edge xs x b) c

least_stay : {A : Type 0} → ((a b : A) → Decided (a ≡ b)) → (a b : A) → LeastNumber (λ c. (a ≡ b) × (c ≡ 0))
least_stay same a b = elim (same a b) [
  | inl here ↦ inl (0, ((here, refl), λ d stays. omega (arith, stays.1)))
  | inr other ↦ inr (λ d stays. other stays.0)
]

-- it is found where the least edges are
pub least_via : {A : Type 0} (Edge : A → A → ℕ → Type 0) → ((a b : A) → Decided (a ≡ b)) → ((a b : A) → LeastNumber (Edge a b))
    → (list : List A) (a b : A) → LeastNumber (IsVia Edge list a b)
least_via Edge same least [] a b = least_of_either (λ c. (a ≡ b) × (c ≡ 0)) (Edge a b) (least_stay same a b) (least a b)
least_via Edge same least (x ∷ xs) a b =
    least_of_either (IsVia Edge xs a b) (IsSumOf (IsVia Edge xs a x) (IsVia Edge xs x b)) (least_via Edge same least xs a b)
    (least_of_sums (IsVia Edge xs a x) (IsVia Edge xs x b) (least_via Edge same least xs a x) (least_via Edge same least xs x b))

-- what holds of staying, of edges, and of two paths put together holds of each path
module _ {A : Type 0} (Edge Holds : A → A → ℕ → Type 0) (stay : (a : A) → Holds a a 0)
    (edge : (a b : A) (c : ℕ) → Edge a b c → Holds a b c)
    (on : (a x b : A) (p q : ℕ) → Holds a x p → Holds x b q → Holds a b (p + q)) where
  short_holds : (a b : A) (c : ℕ) → IsShort Edge a b c → Holds a b c
  short_holds a b c (inl stays) = subst (λ (z : A). Holds a z c) stays.0 (subst (λ (k : ℕ). Holds a a k) (sym stays.1) (stay a))
  short_holds a b c (inr by) = edge a b c by

  pub via_holds : (list : List A) (a b : A) (c : ℕ) → IsVia Edge list a b c → Holds a b c
  via_holds [] a b c via = short_holds a b c via
  via_holds (x ∷ xs) a b c (inl via) = via_holds xs a b c via
  via_holds (x ∷ xs) a b c (inr sum) = subst (λ (k : ℕ). Holds a b k) (sym sum.1.1.1.1)
      (on a x b sum.0 sum.1.0 (via_holds xs a x sum.0 sum.1.1.0) (via_holds xs x b sum.1.0 sum.1.1.1.0))

-- what is short is so by any list
pub via_of_short : {A : Type 0} (Edge : A → A → ℕ → Type 0) (list : List A) (a b : A) (c : ℕ) → IsShort Edge a b c → IsVia Edge list a b c
via_of_short Edge [] a b c short = short
via_of_short Edge (x ∷ xs) a b c short = inl (via_of_short Edge xs a b c short)

-- a cost, no higher than the given one, of such a path
abbrev pub ViaUpTo : {A : Type 0} → (A → A → ℕ → Type 0) → List A → A → A → ℕ → Type 0
ViaUpTo {A} Edge list a b c = (r : ℕ) × (IsVia Edge list a b r × (r ≤ c))

to_first : {A : Type 0} (Edge : A → A → ℕ → Type 0) (x : A) (xs : List A) (a : A) (c : ℕ) → IsVia Edge (x ∷ xs) a x c → ViaUpTo Edge xs a x c
to_first Edge x xs a c (inl via) = (c, (via, omega arith))
to_first Edge x xs a c (inr sum) = (sum.0, (sum.1.1.0, omega (arith, sum.1.1.1.1)))

from_first : {A : Type 0} (Edge : A → A → ℕ → Type 0) (x : A) (xs : List A) (b : A) (c : ℕ) → IsVia Edge (x ∷ xs) x b c → ViaUpTo Edge xs x b c
from_first Edge x xs b c (inl via) = (c, (via, omega arith))
from_first Edge x xs b c (inr sum) = (sum.1.0, (sum.1.1.1.0, omega (arith, sum.1.1.1.1)))

-- through the first thing of the list
through_first : {A : Type 0} (Edge : A → A → ℕ → Type 0) (x : A) (xs : List A) (a b : A) (c p q : ℕ) → ViaUpTo Edge xs a x p
    → ViaUpTo Edge xs x b q → p + q ≤ c → ViaUpTo Edge (x ∷ xs) a b c
through_first Edge x xs a b c p q one two fits =
    (one.0 + two.0, (inr (one.0, (two.0, (one.1.0, (two.1.0, refl)))), omega (arith, one.1.1, two.1.1, fits)))

-- two paths are put together at a thing of the list
pub put_together : {A : Type 0} (Edge : A → A → ℕ → Type 0) (list : List A) (x : A) → Contains list x → (a b : A) (p q : ℕ)
    → IsVia Edge list a x p → IsVia Edge list x b q → ViaUpTo Edge list a b (p + q)
put_together Edge [] x inside a b p q one two = absurd (Contains-none x inside)
put_together {A} Edge (y ∷ ys) x inside a b p q one two = elim (Contains-cons_cases y ys x inside) [
  | inl same ↦
      let to : IsVia Edge (y ∷ ys) a y p = subst (λ (z : A). IsVia Edge (y ∷ ys) a z p) (sym same) one in
      let from : IsVia Edge (y ∷ ys) y b q = subst (λ (z : A). IsVia Edge (y ∷ ys) z b q) (sym same) two in
      through_first Edge y ys a b (p + q) p q (to_first Edge y ys a p to) (from_first Edge y ys b q from) (omega arith)
  | inr behind ↦ elim one [
    | inl near ↦ elim two [
      | inl far ↦ let sum = put_together Edge ys x behind a b p q near far in (sum.0, (inl sum.1.0, sum.1.1))
      | inr over ↦
          let first = put_together Edge ys x behind a y p over.0 near over.1.1.0 in
          through_first Edge y ys a b (p + q) (p + over.0) over.1.0 first (over.1.0, (over.1.1.1.0, omega arith)) (omega (arith, over.1.1.1.1))
    ]
    | inr under ↦ elim two [
      | inl far ↦
          let last = put_together Edge ys x behind y b under.1.0 q under.1.1.1.0 far in
          through_first Edge y ys a b (p + q) under.0 (under.1.0 + q) (under.0, (under.1.1.0, omega arith)) last (omega (arith, under.1.1.1.1))
      | inr over ↦ through_first Edge y ys a b (p + q) under.0 over.1.0 (under.0, (under.1.1.0, omega arith))
          (over.1.0, (over.1.1.1.0, omega arith)) (omega (arith, under.1.1.1.1, over.1.1.1.1))
    ]
  ]
]
