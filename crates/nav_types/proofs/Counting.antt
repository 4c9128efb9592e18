-- Counting things of a kind: how counts are carried over, added up, and that a kind has one.
use Rattle.std.proofs.Common.{ℕ, zero, suc, ◌≡◌, ◌≢◌, ◌+◌, ◌<◌, ◌≤◌, ◌⊎◌, List, [], ◌∷◌, ◌++◌, length, map, get_or, sum, refl, ap, inl, inr, sym, subst, ◌∙◌, arith, length-append, Some, option_map}
use Rattle.std.specs.List.{Contains, sum_by, slice_get}
use Rattle.std.proofs.lemmas.Bool.{cases_lt}
use Rattle.std.proofs.lemmas.List.{length-map}
use Rattle.std.proofs.lemmas.List.Sums.{sum_by-cons, sum-map}
use Rattle.std.proofs.lemmas.Option.{slice_get-map, slice_get_cases, get_or_from_slice_get}
use Rattle.std.proofs.lemmas.List.Elements.{Contains-append_left, Contains-append_right, Contains-append_cases}
use Rattle.nav_types.specs.Counting.{Counts}
use Rattle.nav_types.proofs.Items.{IsOnce, Contains-head, Contains-tail, Contains-cons_cases, Contains-none, Contains-map, from_map, AllPairs-nil, AllPairs-tail, AllPairs-front, AllPairs-append, AllPairs-map, head_apart, same_pair}

-- there is no thing of the kind
pub Counts-none : {A : Type 0} (Kind : A → Type 0) → ((a : A) → Kind a → ⊥) → Counts Kind 0
Counts-none Kind none = (
  [],
  (
    record {
      each = λ a inside. absurd (Contains-none a inside);
      all = λ a is. absurd (none a is);
      once = AllPairs-nil (λ a b. a ≢ b);
    },
    refl,
  ),
)

-- the things of one kind are carried to those of another, each to its own
pub Counts-carried : {A B : Type 0} (Kind : A → Type 0) (Other : B → Type 0) (f : A → B) (count : ℕ)
    → ((a : A) → Kind a → Other (f a))
    → ((b : B) → Other b → (a : A) × (Kind a × (f a ≡ b)))
    → ((a b : A) → Kind a → Kind b → f a ≡ f b → a ≡ b)
    → Counts Kind count → Counts Other count
Counts-carried Kind Other f count to from apart counts =
    let list = counts.0 in let lists = counts.1.0 in (
      map f list,
      (
        record {
          each = λ b inside. let back = from_map f list b inside in subst Other back.1.1 (to back.0 (lists.each back.0 back.1.0));
          all = λ b is. let back = from b is in subst (λ y. Contains (map f list) y) back.1.1 (Contains-map f list back.0 (lists.all back.0 back.1.0));
          once = AllPairs-map (λ a b. a ≢ b) (λ a b. a ≢ b) f list lists.once
              (λ a b in_a in_b differ same. differ (apart a b (lists.each a in_a) (lists.each b in_b) same));
        },
        length-map list f ∙ counts.1.1,
      ),
    )

-- the things of either of two kinds that share none
pub Counts-either : {A : Type 0} (Kind Other : A → Type 0) (m n : ℕ) → ((a : A) → Kind a → Other a → ⊥)
    → Counts Kind m → Counts Other n → Counts (λ a. Kind a ⊎ Other a) (m + n)
Counts-either {A} Kind Other m n apart one two =
    let xs = one.0 in let ys = two.0 in
    let Both : A → Type 0 = λ a. Kind a ⊎ Other a in (
      xs ++ ys,
      (
        record {
          each = λ a inside. elim (Contains-append_cases xs ys a inside) as (λ _. Both a) [
            | inl here ↦ inl (one.1.0.each a here)
            | inr there ↦ inr (two.1.0.each a there)
          ];
          all = λ a is. elim is [
            | inl here ↦ Contains-append_left xs ys a (one.1.0.all a here)
            | inr there ↦ Contains-append_right xs ys a (two.1.0.all a there)
          ];
          once = AllPairs-append (λ a b. a ≢ b) xs ys one.1.0.once two.1.0.once
              (λ x y in_x in_y same. apart y (subst Kind same (one.1.0.each x in_x)) (two.1.0.each y in_y));
        },
        length-append xs ys ∙ ap (λ k. k + length ys) one.1.1 ∙ ap (λ k. m + k) two.1.1,
      ),
    )

-- a number below n + 1 is 0 or follows one below n
first_or_later : {A : Type 0} (Kind : ℕ → A → Type 0) (n k : ℕ) (a : A) → k < suc n → Kind k a
    → ((k ≡ 0) × Kind k a) ⊎ ((j : ℕ) × ((k ≡ suc j) × ((j < n) × Kind k a)))
first_or_later Kind n zero a low is = inl (refl, is)
first_or_later Kind n (suc k) a low is = inr (k, (refl, (omega arith, is)))

-- one kind for each number below the length of the counts: all their things, each with its number, make the sum
pub Counts-sum : {A : Type 0} (Kind : ℕ → A → Type 0) (counts : List ℕ)
    → ((k : ℕ) → k < length counts → Counts (Kind k) (get_or counts k 0))
    → Counts (λ (p : ℕ × A). (p.0 < length counts) × Kind p.0 p.1) (sum counts)
Counts-sum {A} Kind [] each = Counts-none (λ (p : ℕ × A). (p.0 < 0) × Kind p.0 p.1) (λ p is. omega (arith, is.0))
Counts-sum {A} Kind (count ∷ counts) each =
    let Here : ℕ × A → Type 0 = λ p. (p.0 ≡ 0) × Kind p.0 p.1 in
    let Later : ℕ × A → Type 0 = λ p. (k : ℕ) × ((p.0 ≡ suc k) × ((k < length counts) × Kind p.0 p.1)) in
    let Rest : ℕ × A → Type 0 = λ p. (p.0 < length counts) × Kind (suc p.0) p.1 in
    let All : ℕ × A → Type 0 = λ p. (p.0 < suc (length counts)) × Kind p.0 p.1 in
    let first : A → ℕ × A = λ a. (0, a) in
    let up : ℕ × A → ℕ × A = λ p. (suc p.0, p.1) in
    let here : Counts Here count = Counts-carried (Kind 0) Here first count
    (λ a is. (refl, is))
    (λ p is. (p.1, (subst (λ k. Kind k p.1) is.0 is.1, ap (λ (k : ℕ). let q : ℕ × A = (k, p.1) in q) (sym is.0))))
    (λ a b is_a is_b same. ap (λ (p : ℕ × A). p.1) same)
    (each 0 (omega arith)) in
    let later : Counts Later (sum counts) = Counts-carried Rest Later up (sum counts)
    (λ p is. (p.0, (refl, is)))
    (λ p is. ((is.0, p.1), ((is.1.1.0, subst (λ k. Kind k p.1) is.1.0 is.1.1.1), ap (λ (k : ℕ). let q : ℕ × A = (k, p.1) in q) (sym is.1.0))))
    (λ a b is_a is_b same.
    let next : suc a.0 ≡ suc b.0 = ap (λ (p : ℕ × A). p.0) same in
    same_pair a b (omega arith) (ap (λ (p : ℕ × A). p.1) same))
    (Counts-sum (λ k a. Kind (suc k) a) counts (λ k low. each (suc k) (omega arith))) in
    let both = Counts-either Here Later count (sum counts) (λ p is later. omega (arith, is.0, later.1.0)) here later in
    subst (λ n. Counts All n) (sym (sum_by-cons (λ x. x) count counts))
    (Counts-carried (λ p. Here p ⊎ Later p) All (λ p. p) (count + sum counts)
    (λ p is. elim is [ inl now ↦ (omega (arith, now.0), now.1) | inr on ↦ (omega (arith, on.1.0, on.1.1.0), on.1.1.1) ])
    (λ p is. (p, (first_or_later Kind (length counts) p.0 p.1 is.0 is.1, refl)))
    (λ a b is_a is_b same. same)
    both)

-- the same, where each item of a list tells the count of its kind
pub Counts-listed : {A T : Type 0} (Kind : ℕ → A → Type 0) (count : T → ℕ) (items : List T) (many : ℕ) → length items ≡ many
    → ((k : ℕ) (item : T) → slice_get items k ≡ Some item → Counts (Kind k) (count item))
    → Counts (λ (p : ℕ × A). (p.0 < many) × Kind p.0 p.1) (sum_by count items)
Counts-listed {A} {T} Kind count items many long each =
    let counts = map count items in
    let as_long = length-map items count in
    let all : Counts (λ (p : ℕ × A). (p.0 < length counts) × Kind p.0 p.1) (sum counts) = Counts-sum Kind counts (λ k low.
    elim (slice_get_cases items k).1 [
      | inl here ↦
          let is : get_or counts k 0 ≡ count here.0 =
          get_or_from_slice_get counts k (count here.0) 0 (slice_get-map count items k ∙ ap (λ o. option_map count o) here.2) in
          subst (λ n. Counts (Kind k) n) (sym is) (each k here.0 here.2)
      | inr past ↦ absurd (omega (arith, past.0))
    ]) in
    subst (λ n. Counts (λ (p : ℕ × A). (p.0 < n) × Kind p.0 p.1) (sum_by count items)) (as_long ∙ long)
    (subst (λ n. Counts (λ (p : ℕ × A). (p.0 < length counts) × Kind p.0 p.1) n) (sum-map count items) all)

-- there is one thing of the kind
pub Counts-one : {A : Type 0} (Kind : A → Type 0) (a : A) → Kind a → ((b : A) → Kind b → a ≡ b) → Counts Kind 1
Counts-one Kind a is only = (
  a ∷ [],
  (
    record {
      each = λ b inside. elim (Contains-cons_cases a [] b inside) [
        | inl same ↦ subst Kind same is
        | inr none ↦ absurd (Contains-none b none)
      ];
      all = λ b other. subst (λ x. Contains (a ∷ []) x) (only b other) (Contains-head a []);
      once = AllPairs-front (λ a b. a ≢ b) a [] (λ y none. absurd (Contains-none y none)) (AllPairs-nil (λ a b. a ≢ b));
    },
    refl,
  ),
)

-- ---- a kind has one count

-- a list but for the item at a place
abbrev without : {A : Type 0} → ℕ → List A → List A
without k [] = []
without zero (y ∷ ys) = ys
without (suc k) (y ∷ ys) = y ∷ without k ys

length-without : {A : Type 0} (k : ℕ) (ys : List A) → k < length ys → length (without k ys) + 1 ≡ length ys
length-without k [] low = absurd (omega arith)
length-without zero (y ∷ ys) low = omega arith
length-without (suc k) (y ∷ ys) low = omega (arith, length-without k ys (omega arith))

-- another item than the one at the place is still there
Contains-without : {A : Type 0} (k : ℕ) (ys : List A) (x y : A) → k < length ys → get_or ys k x ≡ x → x ≢ y → Contains ys y → Contains (without k ys) y
Contains-without k [] x y low is apart has = absurd (Contains-none y has)
Contains-without zero (z ∷ ys) x y low is apart has = elim (Contains-cons_cases z ys y has) [
  | inl here ↦ absurd (apart (sym is ∙ here))
  | inr later ↦ later
]
Contains-without (suc k) (z ∷ ys) x y low is apart has = elim (Contains-cons_cases z ys y has) [
  | inl here ↦ subst (λ w. Contains (z ∷ without k ys) w) here (Contains-head z (without k ys))
  | inr later ↦ Contains-tail z (without k ys) y (Contains-without k ys x y (omega arith) is apart later)
]

-- a list that has each item once is no longer than one that can lack none of its items
pub no_longer : {A : Type 0} (xs ys : List A) → IsOnce xs → ((x : A) → Contains xs x → (Contains ys x → ⊥) → ⊥) → length ys < length xs → ⊥
no_longer [] ys once within longer = omega (arith, longer)
no_longer (x ∷ xs) ys once within longer =
    within x (Contains-head x xs)
    (λ has. no_longer xs (without has.0 ys) (AllPairs-tail (λ a b. a ≢ b) x xs once)
    (λ y inside lacks. within y (Contains-tail x xs y inside)
    (λ there. lacks (Contains-without has.0 ys x y has.1 has.2 (head_apart (λ a b. a ≢ b) x xs y once inside) there)))
    (omega (arith, longer, length-without has.0 ys has.1)))

-- nor than one that has all of them
once_shorter : {A : Type 0} (xs ys : List A) → IsOnce xs → ((x : A) → Contains xs x → Contains ys x) → length xs ≤ length ys
once_shorter xs ys once within = elim (cases_lt (length ys) (length xs)) [
  | inl longer ↦ absurd (no_longer xs ys once (λ x inside lacks. lacks (within x inside)) longer)
  | inr most ↦ most
]

pub Counts-unique : {A : Type 0} (Kind : A → Type 0) (m n : ℕ) → Counts Kind m → Counts Kind n → m ≡ n
Counts-unique Kind m n one two =
    let low = once_shorter one.0 two.0 one.1.0.once (λ a inside. two.1.0.all a (one.1.0.each a inside)) in
    let high = once_shorter two.0 one.0 two.1.0.once (λ a inside. one.1.0.all a (two.1.0.each a inside)) in
    let long = one.1.1 in let wide = two.1.1 in
    omega arith
