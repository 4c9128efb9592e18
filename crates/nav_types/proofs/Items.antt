-- What a list contains, where its items stand, items that stand in a relation, and pairs.
use Rattle.std.proofs.Common.{ℕ, zero, suc, ◌≡◌, ◌≢◌, ◌<◌, ◌⊎◌, List, [], ◌∷◌, ◌++◌, length, length-append, map, get_or, refl, ap, inl, inr, sym, subst, ◌∙◌, arith, Some}
use Rattle.std.specs.List.{All, AllPairs, Contains, slice_get}
use Rattle.std.proofs.lemmas.Bool.{cases_lt, cases_order}
use Rattle.std.proofs.lemmas.List.{length-map, get_or-map, get_or_append_left, get_or_push}
use Rattle.std.proofs.lemmas.Option.{get_or_from_slice_get, slice_get_within, slice_get-get_or}
use Rattle.std.proofs.lemmas.List.Kept.{AllPairs-cons}
use Rattle.std.proofs.lemmas.List.Elements.{Contains-append_cases, Contains-get_or}

pub Contains-head : {A : Type 0} (x : A) (xs : List A) → Contains (x ∷ xs) x
Contains-head x xs = (0, omega arith, refl)

pub Contains-tail : {A : Type 0} (x : A) (xs : List A) (y : A) → Contains xs y → Contains (x ∷ xs) y
Contains-tail x xs y inside = (suc inside.0, omega (arith, inside.1), inside.2)

pub Contains-cons_cases : {A : Type 0} (x : A) (xs : List A) (y : A) → Contains (x ∷ xs) y → (x ≡ y) ⊎ Contains xs y
Contains-cons_cases x xs y (zero, within, is) = inl is
Contains-cons_cases x xs y (suc k, within, is) = inr (k, omega arith, is)

pub Contains-none : {A : Type 0} (y : A) → Contains [] y → ⊥
Contains-none y inside = omega (arith, inside.1)

pub Contains-map : {A B : Type 0} (f : A → B) (xs : List A) (x : A) → Contains xs x → Contains (map f xs) (f x)
Contains-map f xs x has =
    (has.0, omega (arith, length-map xs f, has.1), get_or-map f xs has.0 x (f x) has.1 ∙ ap f has.2)

-- an item of the mapped list comes from one of the list
pub from_map : {A B : Type 0} (f : A → B) (xs : List A) (y : B) → Contains (map f xs) y → (x : A) × (Contains xs x × (f x ≡ y))
from_map f [] y has = absurd (Contains-none y has)
from_map f (x ∷ xs) y has = elim (Contains-cons_cases (f x) (map f xs) y has) [
  | inl same ↦ (x, (Contains-head x xs, same))
  | inr later ↦ let rest = from_map f xs y later in (rest.0, (Contains-tail x xs rest.0 rest.1.0, rest.1.1))
]

-- each item is listed once
abbrev pub IsOnce : {A : Type 0} → List A → Type 0
IsOnce list = AllPairs (λ a b. a ≢ b) list

pub AllPairs-nil : {A : Type 0} (R : A → A → Type 0) → AllPairs R []
AllPairs-nil R i j d less within = absurd (omega arith)

pub AllPairs-tail : {A : Type 0} (R : A → A → Type 0) (x : A) (xs : List A) → AllPairs R (x ∷ xs) → AllPairs R xs
AllPairs-tail R x xs ordered = λ i j d less within. ordered (suc i) (suc j) d (omega arith) (omega arith)

pub head_apart : {A : Type 0} (R : A → A → Type 0) (x : A) (xs : List A) (y : A) → AllPairs R (x ∷ xs) → Contains xs y → R x y
head_apart R x xs y ordered inside =
    subst (λ z. R x z) inside.2 (ordered 0 (suc inside.0) y (omega arith) (omega (arith, inside.1)))

-- a list with one more in front
pub AllPairs-front : {A : Type 0} (R : A → A → Type 0) (x : A) (xs : List A) → ((y : A) → Contains xs y → R x y) → AllPairs R xs → AllPairs R (x ∷ xs)
AllPairs-front R x xs first rest =
    AllPairs-cons R x xs (λ k d low. first (get_or xs k d) (Contains-get_or xs k d low)) rest

-- two lists one after the other
pub AllPairs-append : {A : Type 0} (R : A → A → Type 0) (xs ys : List A) → AllPairs R xs → AllPairs R ys
    → ((x y : A) → Contains xs x → Contains ys y → R x y) → AllPairs R (xs ++ ys)
AllPairs-append R [] ys one two across = two
AllPairs-append R (x ∷ xs) ys one two across =
    AllPairs-front R x (xs ++ ys)
    (λ y inside. elim (Contains-append_cases xs ys y inside) [
      | inl here ↦ head_apart R x xs y one here
      | inr there ↦ across x y (Contains-head x xs) there
    ])
    (AllPairs-append R xs ys (AllPairs-tail R x xs one) two (λ a b in_a in_b. across a b (Contains-tail x xs a in_a) in_b))

-- a mapped list, where the items of the list stay apart
pub AllPairs-map : {A B : Type 0} (R : A → A → Type 0) (S : B → B → Type 0) (f : A → B) (xs : List A) → AllPairs R xs
    → ((a b : A) → Contains xs a → Contains xs b → R a b → S (f a) (f b)) → AllPairs S (map f xs)
AllPairs-map R S f [] one each = AllPairs-nil S
AllPairs-map R S f (x ∷ xs) one each =
    AllPairs-front S (f x) (map f xs)
    (λ y inside.
    let from = from_map f xs y inside in
    subst (λ z. S (f x) z) from.1.1 (each x from.0 (Contains-head x xs) (Contains-tail x xs from.0 from.1.0) (head_apart R x xs from.0 one from.1.0)))
    (AllPairs-map R S f xs (AllPairs-tail R x xs one) (λ a b in_a in_b. each a b (Contains-tail x xs a in_a) (Contains-tail x xs b in_b)))

-- two pairs of the same parts are one
pub same_pair : {A B : Type 0} (a b : A × B) → a.0 ≡ b.0 → a.1 ≡ b.1 → a ≡ b
same_pair {A} {B} a b first second =
    let one : A → A × B = λ x. (x, a.1) in
    let two : B → A × B = λ y. (b.0, y) in
    ap one first ∙ ap two second

-- an item at a place of a list is in it
pub Contains-from_slice_get : {A : Type 0} (xs : List A) (k : ℕ) (x : A) → slice_get xs k ≡ Some x → Contains xs x
Contains-from_slice_get xs k x at_k = (k, slice_get_within xs k x at_k, get_or_from_slice_get xs k x x at_k)

-- what is put behind a list leaves what stands in it
pub slice_get-before : {A : Type 0} (xs ys : List A) (k : ℕ) → k < length xs
    → slice_get (xs ++ ys) k ≡ slice_get xs k
slice_get-before [] ys k within = absurd (omega (arith, within))
slice_get-before (x ∷ xs) ys zero within = refl
slice_get-before (x ∷ xs) ys (suc k) within = slice_get-before xs ys k (omega (arith, within))

-- an item at a place stays there where the list goes on
pub slice_get-append_left : {A : Type 0} (xs ys : List A) (k : ℕ) (x : A) → slice_get xs k ≡ Some x
    → slice_get (xs ++ ys) k ≡ Some x
slice_get-append_left xs ys k x found = slice_get-before xs ys k (slice_get_within xs k x found) ∙ found

-- the item that is put behind a list stands at the place of the list's length
pub slice_get-push_last : {A : Type 0} (xs : List A) (x : A) → slice_get (xs ++ x ∷ []) (length xs) ≡ Some x
slice_get-push_last xs x =
    let wide : length xs < length (xs ++ x ∷ []) = omega (arith, length-append xs (x ∷ [])) in
    slice_get-get_or (xs ++ x ∷ []) (length xs) x wide ∙ ap (λ z. Some z) (get_or_push xs x x (length xs) refl)

pub slice_get-push_cases : {A : Type 0} (xs : List A) (y : A) (k : ℕ) (x : A) → slice_get (xs ++ y ∷ []) k ≡ Some x
    → (slice_get xs k ≡ Some x) ⊎ ((k ≡ length xs) × (y ≡ x))
slice_get-push_cases xs y k x found =
    let bound = slice_get_within (xs ++ y ∷ []) k x found in
    let value = get_or_from_slice_get (xs ++ y ∷ []) k x x found in
    elim (cases_lt k (length xs)) [
      | inl less ↦ inl (slice_get-get_or xs k x less ∙ ap (λ z. Some z) (sym (get_or_append_left xs (y ∷ []) x k less) ∙ value))
      | inr more ↦
          let last : k ≡ length xs = omega (arith, length-append xs (y ∷ [])) in
          inr (last, sym (get_or_push xs y x k (sym last)) ∙ value)
    ]

-- of two items only one comes before the other
abbrev pub IsAsym : {A : Type 0} → (A → A → Type 0) → Type 0
IsAsym {A} R = (a b : A) → R a b → R b a → ⊥

-- two ordered lists of the same items are one
pub same_ordered : {A : Type 0} (R : A → A → Type 0) → IsAsym R → (xs ys : List A) → AllPairs R xs → AllPairs R ys
    → ((z : A) → Contains xs z → Contains ys z) → ((z : A) → Contains ys z → Contains xs z) → xs ≡ ys
same_ordered R asym [] [] ox oy there back = refl
same_ordered R asym [] (y ∷ ys) ox oy there back = absurd (omega (arith, (back y (Contains-head y ys)).1))
same_ordered R asym (x ∷ xs) [] ox oy there back = absurd (omega (arith, (there x (Contains-head x xs)).1))
same_ordered {A} R asym (x ∷ xs) (y ∷ ys) ox oy there back =
    let heads : x ≡ y = elim (Contains-cons_cases y ys x (there x (Contains-head x xs))) [
      | inl same ↦ sym same
      | inr behind ↦ elim (Contains-cons_cases x xs y (back y (Contains-head y ys))) [
        | inl same ↦ same
        | inr after ↦ absurd (asym x y (head_apart R x xs y ox after) (head_apart R y ys x oy behind))
      ]
    ] in
    let on : (z : A) → Contains xs z → Contains ys z = λ z inside.
    elim (Contains-cons_cases y ys z (there z (Contains-tail x xs z inside))) [
      | inl same ↦ let own : R x x = subst (λ w. R x w) (sym (heads ∙ same)) (head_apart R x xs z ox inside) in absurd (asym x x own own)
      | inr rest ↦ rest
    ] in
    let off : (z : A) → Contains ys z → Contains xs z = λ z inside.
    elim (Contains-cons_cases x xs z (back z (Contains-tail y ys z inside))) [
      | inl same ↦ let own : R y y = subst (λ w. R y w) (sym (sym heads ∙ same)) (head_apart R y ys z oy inside) in absurd (asym y y own own)
      | inr rest ↦ rest
    ] in
    let tails = same_ordered R asym xs ys (AllPairs-tail R x xs ox) (AllPairs-tail R y ys oy) on off in
    ap (λ z. z ∷ xs) heads ∙ ap (λ zs. y ∷ zs) tails

-- an ordered list has each item at one place
pub same_place : {A : Type 0} (R : A → A → Type 0) → IsAsym R → (xs : List A) → AllPairs R xs → (p q : ℕ) (x : A)
    → slice_get xs p ≡ Some x → slice_get xs q ≡ Some x → p ≡ q
same_place R asym xs ordered p q x at_p at_q =
    let bp = slice_get_within xs p x at_p in
    let bq = slice_get_within xs q x at_q in
    let vp = get_or_from_slice_get xs p x x at_p in
    let vq = get_or_from_slice_get xs q x x at_q in
    elim (cases_order p q) [
      | inl same ↦ same
      | inr other ↦ elim other [
        | inl less ↦ let own : R x x = subst (λ w. R x w) vq (subst (λ w. R w (get_or xs q x)) vp (ordered p q x less bq)) in absurd (asym x x own own)
        | inr more ↦ let own : R x x = subst (λ w. R x w) vp (subst (λ w. R w (get_or xs p x)) vq (ordered q p x more bp)) in absurd (asym x x own own)
      ]
    ]

-- what holds of each item of a list with one more behind it holds of each item of the list
pub all_front : {A : Type 0} (P : A → Type 0) (xs : List A) (x : A) → All P (xs ++ x ∷ []) → All P xs
all_front P xs x all k d below =
    subst P (get_or_append_left xs (x ∷ []) d k below) (all k d (omega (arith, length-append xs (x ∷ []))))

-- and of the one behind
pub all_last : {A : Type 0} (P : A → Type 0) (xs : List A) (x : A) → All P (xs ++ x ∷ []) → P x
all_last P xs x all =
    subst P (get_or_push xs x x (length xs) refl) (all (length xs) x (omega (arith, length-append xs (x ∷ []))))
