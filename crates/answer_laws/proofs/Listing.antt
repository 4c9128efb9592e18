-- Lists: numbers below a bound, lists put together, in order, and with each thing once; and what they count.
use Rattle.std.proofs.Common.{ℕ, zero, suc, ◌≡◌, ◌≢◌, ◌*◌, ◌<◌, ◌≤◌, ◌⊎◌, List, [], ◌∷◌, ◌++◌, length, length-append, map, refl, ap, inl, inr, sym, subst, ◌∙◌, arith, Some}
use Rattle.std.specs.List.{AllPairs, Contains, slice_get}
use Rattle.std.proofs.lemmas.Bool.{cases_eq, cases_lt}
use Rattle.std.proofs.lemmas.Option.{slice_get-get_or}
use Rattle.std.proofs.lemmas.List.Elements.{Contains-append_left, Contains-append_right, Contains-append_cases}
use Rattle.nav_types.specs.declared.cells.Cell.{Cell}
use Rattle.nav_types.specs.declared.cells.Size.{Size}
use Rattle.nav_types.specs.Cells.{IsInside}
use Rattle.nav_types.specs.Places.{place_of, cell_of}
use Rattle.nav_types.specs.Counting.{Counts}
use Rattle.nav_types.proofs.Counting.{no_longer}
use Rattle.nav_types.proofs.CellPlaces.{place_of-lt, cell_of-place_of}
use Rattle.nav_types.proofs.Items.{IsOnce, Contains-head, Contains-tail, Contains-cons_cases, Contains-none, Contains-map, AllPairs-nil, AllPairs-tail, AllPairs-front, head_apart}
use Rattle.answer_laws.proofs.Deciding.{Decided, some_in}

-- the numbers below a bound
abbrev pub below : ℕ → List ℕ
below zero = []
below (suc n) = n ∷ below n

pub in_below : (n k : ℕ) → k < n → Contains (below n) k
in_below zero k less = absurd (omega (arith, less))
in_below (suc n) k less = elim (cases_eq n k) [
  | inl same ↦ subst (Contains (n ∷ below n)) same (Contains-head n (below n))
  | inr other ↦ Contains-tail n (below n) k (in_below n k (omega (arith, less, λ (e : k ≡ n). other (sym e))))
]

pub from_below : (n k : ℕ) → Contains (below n) k → k < n
from_below zero k inside = absurd (Contains-none k inside)
from_below (suc n) k inside = elim (Contains-cons_cases n (below n) k inside) [
  | inl same ↦ omega (arith, same)
  | inr rest ↦ omega (arith, from_below n k rest)
]

-- the cells of a map of this size
abbrev pub cells_of : Size → List Cell
cells_of size = map (cell_of size) (below (size.w * size.h))

pub in_cells_of : (size : Size) (cell : Cell) → IsInside size cell → Contains (cells_of size) cell
in_cells_of size cell inside =
    subst (Contains (cells_of size)) (cell_of-place_of size cell inside)
    (Contains-map (cell_of size) (below (size.w * size.h)) (place_of size cell)
    (in_below (size.w * size.h) (place_of size cell) (place_of-lt size cell inside)))

-- the lists of all items, one after another
abbrev pub gathered : {A B : Type 0} → (A → List B) → List A → List B
gathered {A} {B} f [] = []
gathered {A} {B} f (x ∷ xs) = f x ++ gathered f xs

pub in_gathered : {A B : Type 0} (f : A → List B) (xs : List A) (x : A) (y : B) → Contains xs x → Contains (f x) y → Contains (gathered f xs) y
in_gathered f [] x y inside there = absurd (Contains-none x inside)
in_gathered f (z ∷ zs) x y inside there = elim (Contains-cons_cases z zs x inside) [
  | inl same ↦ Contains-append_left (f z) (gathered f zs) y (subst (λ w. Contains (f w) y) (sym same) there)
  | inr rest ↦ Contains-append_right (f z) (gathered f zs) y (in_gathered f zs x y rest there)
]

pub from_gathered : {A B : Type 0} (f : A → List B) (xs : List A) (y : B) → Contains (gathered f xs) y
    → (x : A) × (Contains xs x × Contains (f x) y)
from_gathered f [] y inside = absurd (Contains-none y inside)
from_gathered f (z ∷ zs) y inside = elim (Contains-append_cases (f z) (gathered f zs) y inside) [
  | inl here ↦ (z, (Contains-head z zs, here))
  | inr rest ↦ let found = from_gathered f zs y rest in (found.0, (Contains-tail z zs found.0 found.1.0, found.1.1))
]

-- the item, where the statement holds
abbrev pub only_where : {A P : Type 0} → Decided P → A → List A
only_where {A} {P} (inl holds) a = a ∷ []
only_where {A} {P} (inr fails) a = []

pub in_only_where : {A P : Type 0} (decided : Decided P) (a : A) → P → Contains (only_where decided a) a
in_only_where (inl holds) a p = Contains-head a []
in_only_where (inr fails) a p = absurd (fails p)

pub from_only_where : {A P : Type 0} (decided : Decided P) (a b : A) → Contains (only_where decided a) b → P × (a ≡ b)
from_only_where (inl holds) a b inside = elim (Contains-cons_cases a [] b inside) [
  | inl same ↦ (holds, same)
  | inr rest ↦ absurd (Contains-none b rest)
]
from_only_where (inr fails) a b inside = absurd (Contains-none b inside)

-- ---- each thing once

pub record Once {A : Type 0} (xs : List A) : Type 0 where
  pub list : List A
  pub there : (a : A) → Contains xs a → Contains list a
  pub back : (a : A) → Contains list a → Contains xs a
  pub once : AllPairs (λ a b. a ≢ b) list

pub once_each : {A : Type 0} → ((a b : A) → Decided (a ≡ b)) → (xs : List A) → Once xs
once_each {A} same [] = record { list = []; there = λ a inside. inside; back = λ a inside. inside; once = AllPairs-nil (λ a b. a ≢ b) }
once_each {A} same (x ∷ xs) =
    let rest = once_each same xs in
    elim (some_in (λ a. x ≡ a) (same x) rest.list) [
      | inl found ↦ record {
        list = rest.list;
        there = λ a inside. elim (Contains-cons_cases x xs a inside) [
          | inl here ↦ subst (Contains rest.list) (sym found.1.1 ∙ here) found.1.0
          | inr later ↦ rest.there a later
        ];
        back = λ a inside. Contains-tail x xs a (rest.back a inside);
        once = rest.once;
      }
      | inr none ↦ record {
        list = x ∷ rest.list;
        there = λ a inside. elim (Contains-cons_cases x xs a inside) [
          | inl here ↦ subst (Contains (x ∷ rest.list)) here (Contains-head x rest.list)
          | inr later ↦ Contains-tail x rest.list a (rest.there a later)
        ];
        back = λ a inside. elim (Contains-cons_cases x rest.list a inside) [
          | inl here ↦ subst (Contains (x ∷ xs)) here (Contains-head x xs)
          | inr later ↦ Contains-tail x xs a (rest.back a later)
        ];
        once = AllPairs-front (λ a b. a ≢ b) x rest.list (λ a inside. none a inside) rest.once;
      }
    ]

-- there is a number of the things of a kind, where a list has them all and nothing else
pub counted : {A : Type 0} (Kind : A → Type 0) → ((a b : A) → Decided (a ≡ b)) → (xs : List A)
    → ((a : A) → Contains xs a → Kind a) → ((a : A) → Kind a → Contains xs a) → (count : ℕ) × Counts Kind count
counted Kind same xs each all =
    let once = once_each same xs in (
      length once.list,
      (
        once.list,
        (
          record {
            each = λ a inside. each a (once.back a inside);
            all = λ a is. once.there a (all a is);
            once = once.once;
          },
          refl,
        ),
      ),
    )

-- ---- lists in order

-- the list with one thing more, in order
pub record Put {A : Type 0} (Before : A → A → Type 0) (x : A) (xs : List A) : Type 0 where
  pub list : List A
  pub new : Contains list x
  pub there : (a : A) → Contains xs a → Contains list a
  pub back : (a : A) → Contains list a → (x ≡ a) ⊎ Contains xs a
  pub rising : AllPairs Before list

pub put_in : {A : Type 0} (Before : A → A → Type 0) → ((a b : A) → (a ≡ b) ⊎ (Before a b ⊎ Before b a))
    → ((a b c : A) → Before a b → Before b c → Before a c) → (x : A) (xs : List A) → AllPairs Before xs → Put Before x xs
put_in Before cases on x [] rising = record {
  list = x ∷ [];
  new = Contains-head x [];
  there = λ a inside. absurd (Contains-none a inside);
  back = λ a inside. Contains-cons_cases x [] a inside;
  rising = AllPairs-front Before x [] (λ a inside. absurd (Contains-none a inside)) rising;
}
put_in Before cases on x (y ∷ ys) rising = elim (cases x y) [
  | inl same ↦ record {
    list = y ∷ ys;
    new = subst (Contains (y ∷ ys)) (sym same) (Contains-head y ys);
    there = λ a inside. inside;
    back = λ a inside. inr inside;
    rising = rising;
  }
  | inr other ↦ elim other [
    | inl less ↦ record {
      list = x ∷ y ∷ ys;
      new = Contains-head x (y ∷ ys);
      there = λ a inside. Contains-tail x (y ∷ ys) a inside;
      back = λ a inside. Contains-cons_cases x (y ∷ ys) a inside;
      rising = AllPairs-front Before x (y ∷ ys) (λ a inside. elim (Contains-cons_cases y ys a inside) [
        | inl here ↦ subst (Before x) here less
        | inr later ↦ on x y a less (head_apart Before y ys a rising later)
      ]) rising;
    }
    | inr more ↦
        let rest = put_in Before cases on x ys (AllPairs-tail Before y ys rising) in
        record {
          list = y ∷ rest.list;
          new = Contains-tail y rest.list x rest.new;
          there = λ a inside. elim (Contains-cons_cases y ys a inside) [
            | inl here ↦ subst (Contains (y ∷ rest.list)) here (Contains-head y rest.list)
            | inr later ↦ Contains-tail y rest.list a (rest.there a later)
          ];
          back = λ a inside. elim (Contains-cons_cases y rest.list a inside) [
            | inl here ↦ inr (subst (Contains (y ∷ ys)) here (Contains-head y ys))
            | inr later ↦ elim (rest.back a later) [ inl is ↦ inl is | inr old ↦ inr (Contains-tail y ys a old) ]
          ];
          rising = AllPairs-front Before y rest.list (λ a inside. elim (rest.back a inside) [
            | inl is ↦ subst (Before y) is more
            | inr old ↦ head_apart Before y ys a rising old
          ]) rest.rising;
        }
  ]
]

-- the things of a list that are of a kind, in order
pub record Ordered {A : Type 0} (Kind : A → Type 0) (Before : A → A → Type 0) (xs : List A) : Type 0 where
  pub list : List A
  pub each : (a : A) → Contains list a → Kind a
  pub all : (a : A) → Contains xs a → Kind a → Contains list a
  pub rising : AllPairs Before list

pub ordered : {A : Type 0} (Kind : A → Type 0) (Before : A → A → Type 0) → ((a : A) → Decided (Kind a))
    → ((a b : A) → (a ≡ b) ⊎ (Before a b ⊎ Before b a)) → ((a b c : A) → Before a b → Before b c → Before a c)
    → (xs : List A) → Ordered Kind Before xs
ordered Kind Before decide cases on [] = record {
  list = [];
  each = λ a inside. absurd (Contains-none a inside);
  all = λ a inside is. inside;
  rising = AllPairs-nil Before;
}
ordered Kind Before decide cases on (x ∷ xs) =
    let rest = ordered Kind Before decide cases on xs in
    elim (decide x) [
      | inl here ↦
          let put = put_in Before cases on x rest.list rest.rising in
          record {
            list = put.list;
            each = λ a inside. elim (put.back a inside) [ inl is ↦ subst Kind is here | inr old ↦ rest.each a old ];
            all = λ a inside is. elim (Contains-cons_cases x xs a inside) [
              | inl same ↦ subst (Contains put.list) same put.new
              | inr later ↦ put.there a (rest.all a later is)
            ];
            rising = put.rising;
          }
      | inr not_here ↦ record {
        list = rest.list;
        each = rest.each;
        all = λ a inside is. elim (Contains-cons_cases x xs a inside) [
          | inl same ↦ absurd (not_here (subst Kind (sym same) is))
          | inr later ↦ rest.all a later is
        ];
        rising = rest.rising;
      }
    ]

-- the place of an item of a list
pub place_in_list : {A : Type 0} (xs : List A) (x : A) → Contains xs x → (k : ℕ) × (slice_get xs k ≡ Some x)
place_in_list {A} xs x inside =
    let P = λ (y : A). slice_get xs inside.0 ≡ Some y in
    (inside.0, subst P inside.2 (slice_get-get_or xs inside.0 x inside.1))

-- ---- how long lists are

pub fewer : {A : Type 0} (xs ys : List A) → IsOnce xs → ((a : A) → Contains xs a → Contains ys a) → length xs ≤ length ys
fewer xs ys once within = elim (cases_lt (length ys) (length xs)) [
  | inl longer ↦ absurd (no_longer xs ys once (λ a inside lacks. lacks (within a inside)) longer)
  | inr most ↦ most
]

pub below_length : (n : ℕ) → length (below n) ≡ n
below_length zero = refl
below_length (suc n) = ap suc (below_length n)

pub gathered_few : {A B : Type 0} (f : A → List B) (most : ℕ) → ((a : A) → length (f a) ≤ most) → (xs : List A)
    → length (gathered f xs) ≤ most * length xs
gathered_few f most each [] = omega arith
gathered_few f most each (x ∷ xs) = omega (arith, length-append (f x) (gathered f xs), each x, gathered_few f most each xs)

pub only_few : {A P : Type 0} (decided : Decided P) (a : A) → length (only_where decided a) ≤ 1
only_few (inl holds) a = omega arith
only_few (inr fails) a = omega arith

-- there are no more things of a kind than a list has that has them all
pub counts_few : {A : Type 0} (Kind : A → Type 0) (count : ℕ) → Counts Kind count → (list : List A) → ((a : A) → Kind a → Contains list a)
    → count ≤ length list
counts_few Kind count counts list all =
    let few = fewer counts.0 list counts.1.0.once (λ a inside. all a (counts.1.0.each a inside)) in
    omega (arith, few, counts.1.1)
