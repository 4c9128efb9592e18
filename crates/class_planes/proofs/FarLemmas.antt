-- How far a run goes, by the bits of three lines.
use Rattle.std.proofs.Common.{◌≡◌, ℕ, zero, suc, ◌+◌, ◌-◌, ◌/◌, ◌%◌, ◌<◌, ◌≤◌, Bool, true, false, IsTrue, IsFalse, leb, eqb, max, List, get_or, inl, inr, refl, sym, ap, ap₂, ◌∙◌, subst, arith, if◌then◌else◌}
use Rattle.std.proofs.lemmas.Bool.{cases_lt, false≢true, le-leb, leb-true, eqb-true, false_from_ne_true}
use Rattle.std.proofs.lemmas.Nat.Bits.{bit_at-lt}
use Rattle.nav_types.specs.declared.straights.Way.TheVariants.{Up, Down}
use Rattle.class_planes.specs.inner.Runs.{bit_in, opening, LaneWords, end_up, end_down, IsNext, IsLast, bits_along, opens_after, GoesFar}

far_forced : (mid left right : ℕ → ℕ) (count m : ℕ) → mid 0 ≡ 1
    → ((n : ℕ) → suc n < count → (mid (suc n) ≡ 1) × (opens_after left right n ≡ 0))
    → suc m ≡ count → mid (suc m) ≡ 1 → opens_after left right m ≡ 1 → GoesFar mid left right
    (record { count = count; forced = true })
far_forced mid left right count m here on last free opens = record {
  free = λ n within. free_at n within;
  shut = λ n less. (on n less).1;
  opens = λ is. (m, (last, opens));
  last = λ never. absurd (false≢true (sym never));
  ends = λ never. absurd (false≢true (sym never));
}
  where
    free_at : (n : ℕ) → n ≤ count → mid n ≡ 1
    free_at zero within = here
    free_at (suc n) within = elim (cases_lt (suc n) count) [
      | inl less ↦ (on n less).0
      | inr all ↦ let same : suc m ≡ suc n = omega (arith, last, all, within) in subst (λ k. mid k ≡ 1) same free
    ]

far_free : (mid left right : ℕ → ℕ) (count : ℕ) → mid 0 ≡ 1
    → ((n : ℕ) → suc n ≤ count → (mid (suc n) ≡ 1) × (opens_after left right n ≡ 0))
    → mid (suc count) ≡ 0 → GoesFar mid left right (record { count = count; forced = false })
far_free mid left right count here on end = record {
  free = λ n within. free_at n within;
  shut = λ n less. (on n (omega (arith, less))).1;
  opens = λ never. absurd (false≢true never);
  last = λ is n same. (on n (omega (arith, same))).1;
  ends = λ is. end;
}
  where
    free_at : (n : ℕ) → n ≤ count → mid n ≡ 1
    free_at zero within = here
    free_at (suc n) within = (on n within).0

up_end : (lanes : LaneWords) (from n : ℕ) → end_up lanes (from + suc n)
    ≡ max (1 - bits_along Up lanes.mid from (suc n)) (opens_after (bits_along Up lanes.left from) (bits_along Up lanes.right from) n)
up_end lanes from n =
    let same : from + suc n - 1 ≡ from + n = omega arith in
    ap (λ p. max (1 - bit_in lanes.mid (from + suc n))
    (max (opening (bit_in lanes.left p) (bit_in lanes.left (from + suc n)))
    (opening (bit_in lanes.right p) (bit_in lanes.right (from + suc n))))) same

if_true : (b : Bool) (x y : ℕ) → b ≡ true → (if b then x else y) ≡ x
if_true true x y is = refl
if_true false x y is = absurd (false≢true is)

if_false : (b : Bool) (x y : ℕ) → b ≡ false → (if b then x else y) ≡ y
if_false true x y is = absurd (false≢true (sym is))
if_false false x y is = refl

pub down_at : (words : List ℕ) (from n : ℕ) → n ≤ from → bits_along Down words from n ≡ bit_in words (from - n)
down_at words from n within = if_true (leb n from) (bit_in words (from - n)) 0 (le-leb n from within)

pub down_past : (words : List ℕ) (from n : ℕ) → from < n → bits_along Down words from n ≡ 0
down_past words from n past =
    if_false (leb n from) (bit_in words (from - n)) 0
    (false_from_ne_true (leb n from)
    (λ is. let within : n ≤ from = leb-true n from is in omega (arith, within, past)))

down_end : (lanes : LaneWords) (from n : ℕ) → suc n ≤ from → end_down lanes (from - suc n)
    ≡ max (1 - bits_along Down lanes.mid from (suc n))
    (opens_after (bits_along Down lanes.left from) (bits_along Down lanes.right from) n)
down_end lanes from n within =
    let same : from - suc n + 1 ≡ from - n = omega (arith, within) in
    let here = λ (words : List ℕ). sym (down_at words from (suc n) within) in
    let before = λ (words : List ℕ). ap (bit_in words) same ∙ sym (down_at words from n (omega (arith, within))) in
    ap₂ (λ a b. max (1 - a) b) (here lanes.mid)
    (ap₂ max (ap₂ opening (before lanes.left) (here lanes.left)) (ap₂ opening (before lanes.right) (here lanes.right)))

pub bit_small : (words : List ℕ) (i : ℕ) → bit_in words i < 2
bit_small words i = bit_at-lt (get_or words (i / 64) 0) (i % 64)

pub down_small : (words : List ℕ) (from n : ℕ) → bits_along Down words from n < 2
down_small words from n = elim (cases_lt from n) [
  | inl past ↦ let none = down_past words from n past in omega (arith, none)
  | inr within ↦ let is = down_at words from n within in let small = bit_small words (from - n) in omega
      (arith, is, small)
]

-- an end's bit is 0 exactly where the place is free and no side opens
no_end : (m o e : ℕ) → m < 2 → e ≡ max (1 - m) o → e ≡ 0 → (m ≡ 1) × (o ≡ 0)
no_end m o e small is none = (omega (arith, small, is, none), omega (arith, is, none))

pub up_forced : (lanes : LaneWords) (from end count : ℕ) → bit_in lanes.mid from ≡ 1 → IsNext (end_up lanes) from end
    → bit_in lanes.mid end ≡ 1 → count ≡ end - from
    → GoesFar (bits_along Up lanes.mid from) (bits_along Up lanes.left from) (bits_along Up lanes.right from)
    (record { count = count; forced = true })
up_forced lanes from end count here next free is =
    let after = next.after in
    let start : from ≡ from + 0 = omega arith in
    let m : ℕ = count - 1 in
    let all : from + suc m ≡ end = omega (arith, is, after) in
    let last_free : bit_in lanes.mid (from + suc m) ≡ 1 = ap (bit_in lanes.mid) all ∙ free in
    let set : end_up lanes (from + suc m) ≡ 1 = ap (end_up lanes) all ∙ next.set in
    let parts = up_end lanes from m in
    far_forced (bits_along Up lanes.mid from) (bits_along Up lanes.left from) (bits_along Up lanes.right from) count m
    (subst (λ n. bit_in lanes.mid n ≡ 1) start here)
    (λ n less. no_end (bits_along Up lanes.mid from (suc n))
    (opens_after (bits_along Up lanes.left from) (bits_along Up lanes.right from) n) (end_up lanes (from + suc n))
    (bit_small lanes.mid (from + suc n)) (up_end lanes from n)
    (next.none (from + suc n) (omega arith) (omega (arith, less, is))))
    (omega (arith, is, after)) last_free
    (is_opening (bits_along Up lanes.mid from (suc m))
    (opens_after (bits_along Up lanes.left from) (bits_along Up lanes.right from) m) (end_up lanes (from + suc m)) last_free
    parts set)
  where
    is_opening : (m o e : ℕ) → m ≡ 1 → e ≡ max (1 - m) o → e ≡ 1 → o ≡ 1
    is_opening m o e one is set = omega (arith, one, is, set)

pub up_free : (lanes : LaneWords) (from end count : ℕ) → bit_in lanes.mid from ≡ 1 → IsNext (end_up lanes) from end
    → bit_in lanes.mid end ≡ 0 → count ≡ end - from - 1
    → GoesFar (bits_along Up lanes.mid from) (bits_along Up lanes.left from) (bits_along Up lanes.right from)
    (record { count = count; forced = false })
up_free lanes from end count here next blocked is =
    let after = next.after in
    let start : from ≡ from + 0 = omega arith in
    let all : from + suc count ≡ end = omega (arith, is, after) in
    far_free (bits_along Up lanes.mid from) (bits_along Up lanes.left from) (bits_along Up lanes.right from) count
    (subst (λ n. bit_in lanes.mid n ≡ 1) start here)
    (λ n less. no_end (bits_along Up lanes.mid from (suc n))
    (opens_after (bits_along Up lanes.left from) (bits_along Up lanes.right from) n) (end_up lanes (from + suc n))
    (bit_small lanes.mid (from + suc n)) (up_end lanes from n)
    (next.none (from + suc n) (omega arith) (omega (arith, less, is, after))))
    (ap (bit_in lanes.mid) all ∙ blocked)

down_start : (lanes : LaneWords) (from : ℕ) → bit_in lanes.mid from ≡ 1 → bits_along Down lanes.mid from 0 ≡ 1
down_start lanes from here =
    let same : from - 0 ≡ from = omega arith in down_at lanes.mid from 0 (omega arith) ∙ ap (bit_in lanes.mid) same ∙
    here

down_on : (lanes : LaneWords) (from n : ℕ) → suc n ≤ from → end_down lanes (from - suc n) ≡ 0
    → (bits_along Down lanes.mid from (suc n) ≡ 1) ×
    (opens_after (bits_along Down lanes.left from) (bits_along Down lanes.right from) n ≡ 0)
down_on lanes from n within none =
    no_end (bits_along Down lanes.mid from (suc n)) (opens_after (bits_along Down lanes.left from) (bits_along Down lanes.right from) n)
    (end_down lanes (from - suc n)) (down_small lanes.mid from (suc n))
    (down_end lanes from n within) none

pub down_forced : (lanes : LaneWords) (from end count : ℕ) → bit_in lanes.mid from ≡ 1
    → IsLast (end_down lanes) from end → bit_in lanes.mid end ≡ 1 → count ≡ from - end
    → GoesFar (bits_along Down lanes.mid from) (bits_along Down lanes.left from) (bits_along Down lanes.right from)
    (record { count = count; forced = true })
down_forced lanes from end count here last free is =
    let before = last.before in
    let m : ℕ = count - 1 in
    let within : suc m ≤ from = omega (arith, is, before) in
    let all : from - suc m ≡ end = omega (arith, is, before) in
    let last_free : bits_along Down lanes.mid from (suc m) ≡ 1 = down_at lanes.mid from (suc m) within ∙ ap (bit_in lanes.mid)
    all ∙ free in
    let set : end_down lanes (from - suc m) ≡ 1 = ap (end_down lanes) all ∙ last.set in
    let parts = down_end lanes from m within in
    far_forced (bits_along Down lanes.mid from) (bits_along Down lanes.left from) (bits_along Down lanes.right from) count m
    (down_start lanes from here)
    (λ n less. down_on lanes from n (omega (arith, less, is))
    (last.none (from - suc n) (omega (arith, less, is, before)) (omega (arith, less, is, before))))
    (omega (arith, is, before)) last_free
    (is_opening (bits_along Down lanes.mid from (suc m))
    (opens_after (bits_along Down lanes.left from) (bits_along Down lanes.right from) m) (end_down lanes (from - suc m))
    last_free parts set)
  where
    is_opening : (m o e : ℕ) → m ≡ 1 → e ≡ max (1 - m) o → e ≡ 1 → o ≡ 1
    is_opening m o e one is set = omega (arith, one, is, set)

pub down_free : (lanes : LaneWords) (from end count : ℕ) → bit_in lanes.mid from ≡ 1 → IsLast (end_down lanes) from end
    → bit_in lanes.mid end ≡ 0 → count ≡ from - end - 1
    → GoesFar (bits_along Down lanes.mid from) (bits_along Down lanes.left from) (bits_along Down lanes.right from)
    (record { count = count; forced = false })
down_free lanes from end count here last blocked is =
    let before = last.before in
    let all : from - suc count ≡ end = omega (arith, is, before) in
    far_free (bits_along Down lanes.mid from) (bits_along Down lanes.left from) (bits_along Down lanes.right from) count
    (down_start lanes from here)
    (λ n less. down_on lanes from n (omega (arith, less, is, before))
    (last.none (from - suc n) (omega (arith, less, is, before)) (omega (arith, less, is, before))))
    (down_at lanes.mid from (suc count) (omega (arith, is, before)) ∙ ap (bit_in lanes.mid) all ∙ blocked)

pub down_whole : (lanes : LaneWords) (from : ℕ) → bit_in lanes.mid from ≡ 1
    → ((i : ℕ) → i < from → end_down lanes i ≡ 0)
    → GoesFar (bits_along Down lanes.mid from) (bits_along Down lanes.left from) (bits_along Down lanes.right from)
    (record { count = from; forced = false })
down_whole lanes from here none =
    far_free (bits_along Down lanes.mid from) (bits_along Down lanes.left from) (bits_along Down lanes.right from) from
    (down_start lanes from here)
    (λ n within. down_on lanes from n within (none (from - suc n) (omega (arith, within))))
    (down_past lanes.mid from (suc from) (omega arith))

-- what a test of a bit says
pub is_set : (bit : ℕ) (test : Bool) → test ≡ eqb bit 1 → IsTrue test → bit ≡ 1
is_set bit test is set = eqb-true bit 1 (sym is ∙ set)

pub is_clear : (words : List ℕ) (i : ℕ) (test : Bool) → test ≡ eqb (bit_in words i) 1 → IsFalse test
    → bit_in words i ≡ 0
is_clear words i test is never = elim (cases_lt (bit_in words i) 1) [
  | inl low ↦ omega (arith, low)
  | inr high ↦
      let small = bit_small words i in
      let one : bit_in words i ≡ 1 = omega (arith, high, small) in
      absurd (false≢true (sym never ∙ is ∙ ap (λ b. eqb b 1) one))
]
