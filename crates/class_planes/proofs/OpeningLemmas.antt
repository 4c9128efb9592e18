-- The first place along a run where a side opens.
use Rattle.std.proofs.Common.{◌≡◌, ℕ, Option, Some, None, IfSome, IfNone, suc, ◌+◌, ◌-◌, ◌*◌, ◌/◌, ◌%◌, ◌<◌, ◌≤◌, max, List, length, inl, inr, sym, ap, ap₂, ◌∙◌, subst, arith}
use Rattle.std.proofs.lemmas.Bool.{cases_lt}
use Rattle.nav_types.specs.declared.straights.Way.TheVariants.{Up, Down}
use Rattle.class_planes.specs.inner.Runs.{bit_in, opening, open_up, open_down, IsNext, IsLast, bits_along, opens_after, OpensFirst}
use Rattle.class_planes.proofs.WordLemmas.{past_line}
use Rattle.class_planes.proofs.FarLemmas.{down_at, down_past}

-- past the last word no side opens
pub up_past : (left right : List ℕ) (i : ℕ) → length right ≡ length left → 64 * length left ≤ i
    → open_up left right i ≡ 0
up_past left right i long past =
    let none_left : bit_in left i ≡ 0 = past_line left i (omega (arith, past)) in
    let none_right : bit_in right i ≡ 0 = past_line right i (omega (arith, past, long)) in
    omega (arith, none_left, none_right)

-- the first place in another word, where there is none in the word of the place itself
pub next_far : (bit : ℕ → ℕ) (from place : ℕ) → IsNext bit (64 * (from / 64) + 63) place
    → ((i : ℕ) → from < i → i < 64 * (from / 64 + 1) → bit i ≡ 0) → IsNext bit from (from + (place - from))
next_far bit from place next none =
    let after = next.after in
    let there : place ≡ from + (place - from) = omega (arith, after) in
    subst (IsNext bit from) there (record {
      after = omega (arith, after);
      set = next.set;
      none = λ i past below. elim (cases_lt i (64 * (from / 64 + 1))) [
        | inl here ↦ none i past here
        | inr beyond ↦ next.none i (omega (arith, beyond)) below
      ];
    })

pub none_far : (bit : ℕ → ℕ) (from : ℕ) → ((i : ℕ) → 64 * (from / 64) + 63 < i → bit i ≡ 0)
    → ((i : ℕ) → from < i → i < 64 * (from / 64 + 1) → bit i ≡ 0) → (i : ℕ) → from < i → bit i ≡ 0
none_far bit from beyond none i past = elim (cases_lt i (64 * (from / 64 + 1))) [
  | inl here ↦ none i past here
  | inr far ↦ beyond i (omega (arith, far))
]

-- the last place before another, by the steps to it
pub last_steps : (bit : ℕ → ℕ) (from t : ℕ) → IsLast bit from (64 * (from / 64) + t)
    → (from % 64 - t ≤ from) × IsLast bit from (from - (from % 64 - t))
last_steps bit from t last =
    let before = last.before in
    let there : 64 * (from / 64) + t ≡ from - (from % 64 - t) = omega (arith, before) in
    (omega arith, subst (IsLast bit from) there last)

pub last_far : (bit : ℕ → ℕ) (from place : ℕ) → IsLast bit (64 * (from / 64)) place
    → ((i : ℕ) → 64 * (from / 64) ≤ i → i < from → bit i ≡ 0)
    → (from - place ≤ from) × IsLast bit from (from - (from - place))
last_far bit from place last none =
    let before = last.before in
    let there : place ≡ from - (from - place) = omega (arith, before) in (
      omega arith,
      subst (IsLast bit from) there (record {
        before = omega (arith, before);
        set = last.set;
        none = λ i past below. elim (cases_lt i (64 * (from / 64))) [
          | inl far ↦ last.none i past far
          | inr here ↦ none i here below
        ];
      }),
    )

pub none_under_far : (bit : ℕ → ℕ) (from : ℕ) → ((i : ℕ) → i < 64 * (from / 64) → bit i ≡ 0)
    → ((i : ℕ) → 64 * (from / 64) ≤ i → i < from → bit i ≡ 0) → (i : ℕ) → i < from → bit i ≡ 0
none_under_far bit from beyond none i below = elim (cases_lt i (64 * (from / 64))) [
  | inl far ↦ beyond i far
  | inr here ↦ none i here below
]

-- ---- the same by the bits along the run

up_opens : (left right : List ℕ) (from n : ℕ)
    → opens_after (bits_along Up left from) (bits_along Up right from) n ≡ open_up left right (from + suc n)
up_opens left right from n =
    let same : from + n ≡ from + suc n - 1 = omega arith in
    ap (λ p. max (opening (bit_in left p) (bit_in left (from + suc n)))
    (opening (bit_in right p) (bit_in right (from + suc n)))) same

pub up_first : (left right : List ℕ) (from count : ℕ) → IsNext (open_up left right) from (from + count)
    → OpensFirst (bits_along Up left from) (bits_along Up right from) count
up_first left right from count next =
    let after = next.after in
    let m : ℕ = count - 1 in
    let last : suc m ≡ count = omega (arith, after) in
    let there : from + count ≡ from + suc m = omega (arith, last) in
    record {
      opens = (m, (last, up_opens left right from m ∙ sym (ap (open_up left right) there) ∙ next.set));
      shut = λ n less. up_opens left right from n ∙ next.none (from + suc n) (omega arith) (omega (arith, less));
    }

pub up_none : (left right : List ℕ) (from : ℕ) → ((i : ℕ) → from < i → open_up left right i ≡ 0)
    → (n : ℕ) → opens_after (bits_along Up left from) (bits_along Up right from) n ≡ 0
up_none left right from none n = up_opens left right from n ∙ none (from + suc n) (omega arith)

down_opens : (left right : List ℕ) (from n : ℕ) → suc n ≤ from
    → opens_after (bits_along Down left from) (bits_along Down right from) n ≡ open_down left right (from - suc n)
down_opens left right from n within =
    let same : from - n ≡ from - suc n + 1 = omega (arith, within) in
    let here = λ (words : List ℕ). down_at words from (suc n) within in
    let before = λ (words : List ℕ). down_at words from n (omega (arith, within)) ∙ ap (bit_in words) same in
    ap₂ max (ap₂ opening (before left) (here left)) (ap₂ opening (before right) (here right))

-- before the line's begin no side opens
down_shut : (left right : List ℕ) (from n : ℕ) → from < suc n
    → opens_after (bits_along Down left from) (bits_along Down right from) n ≡ 0
down_shut left right from n past =
    let none_left = down_past left from (suc n) past in
    let none_right = down_past right from (suc n) past in
    omega (arith, none_left, none_right)

pub down_first : (left right : List ℕ) (from count : ℕ) → count ≤ from
    → IsLast (open_down left right) from (from - count)
    → OpensFirst (bits_along Down left from) (bits_along Down right from) count
down_first left right from count within last =
    let before = last.before in
    let m : ℕ = count - 1 in
    let all : suc m ≡ count = omega (arith, before, within) in
    let there : from - count ≡ from - suc m = omega (arith, all) in
    record {
      opens = (
        m,
        (
          all,
          down_opens left right from m (omega (arith, all, within)) ∙ sym (ap (open_down left right) there) ∙ last.set,
        ),
      );
      shut = λ n less. down_opens left right from n (omega (arith, less, within))
          ∙ last.none (from - suc n) (omega (arith, less, within)) (omega (arith, less, within));
    }

pub down_none : (left right : List ℕ) (from : ℕ) → ((i : ℕ) → i < from → open_down left right i ≡ 0)
    → (n : ℕ) → opens_after (bits_along Down left from) (bits_along Down right from) n ≡ 0
down_none left right from none n = elim (cases_lt from (suc n)) [
  | inl past ↦ down_shut left right from n past
  | inr within ↦ down_opens left right from n within ∙ none (from - suc n) (omega (arith, within))
]

one_not_none : (x : ℕ) → x ≡ 1 → x ≡ 0 → ⊥
one_not_none x one none = omega (arith, one, none)

-- there is one first forced place
pub same_first : (left right : ℕ → ℕ) (a b : ℕ) → OpensFirst left right a → OpensFirst left right b → a ≡ b
same_first left right a b one two =
    let n : ℕ = one.opens.0 in
    let last_a : suc n ≡ a = one.opens.1.0 in
    let set_a : opens_after left right n ≡ 1 = one.opens.1.1 in
    let m : ℕ = two.opens.0 in
    let last_b : suc m ≡ b = two.opens.1.0 in
    let set_b : opens_after left right m ≡ 1 = two.opens.1.1 in
    elim (cases_lt a b) [
      | inl less ↦ absurd (one_not_none (opens_after left right n) set_a (two.shut n (omega (arith, last_a, less))))
      | inr more ↦ elim (cases_lt b a) [
        | inl less ↦ absurd (one_not_none (opens_after left right m) set_b (one.shut m (omega (arith, last_b, less))))
        | inr other ↦ omega (arith, more, other)
      ]
    ]

-- and the one that is known is found
pub known_first : (found : Option ℕ) (left right : ℕ → ℕ) (count : ℕ) → OpensFirst left right count
    → IfSome found (OpensFirst left right) → IfNone found ((n : ℕ) → opens_after left right n ≡ 0) → found ≡ Some count
known_first None left right count is some none =
    absurd (one_not_none (opens_after left right is.opens.0) is.opens.1.1 (none is.opens.0))
known_first (Some other) left right count is some none = ap Some (same_first left right other count some is)
