-- Marked places, and how many of them stand before a place.
use Rattle.std.proofs.Common.{◌≡◌, ◌≢◌, ℕ, zero, suc, Bool, true, false, ◌+◌, ◌-◌, ◌*◌, ◌/◌, ◌%◌, ◌^◌, ◌<◌, ◌≤◌, ◌||◌, List, length, get_or, set, bit_and, bit_or, refl, sym, ap, ◌∙◌, subst, inl, inr, arith, w64, mod-lt, get_or-set_same, get_or-set_other}
use Rattle.std.specs.Prelude.{◌==◌, if◌then◌else◌, nat_lt, IsTrue, count_ones}
use Rattle.std.specs.Int.{bit_at}
use Rattle.std.proofs.lemmas.Bool.{cases_order, cases_eq, cases_lt, cases_Bool, or_right, ne_eqb, eq-eqb, lt-ltb, le-ltb}
use Rattle.std.proofs.lemmas.List.{get_or_read}
use Rattle.std.proofs.lemmas.Nat.{mod-pow-add, ones_cat, ones_le_self, pow_pos, one_shl, and_mask}
use Rattle.std.proofs.lemmas.Nat.Bits.{bit_at_set_same, bit_at_set_other, bit_at-lt}
use Rattle.reach_sets.specs.inner.EndMarks.{is_marked, marked_before, AreCounts}

-- ---- how the count grows

pub before_next : (words : List ℕ) (k n : ℕ) → n ≡ k + 1 → marked_before words n ≡ marked_before words k + (if is_marked words k then 1 else 0)
before_next words k n is = let e : n ≡ suc k = omega arith in ap (marked_before words) e

pub before_marked : (words : List ℕ) (k : ℕ) → IsTrue (is_marked words k) → marked_before words (k + 1) ≡ marked_before words k + 1
before_marked words k marked_is =
    before_next words k (k + 1) refl ∙ ap (λ b. marked_before words k + (if b then 1 else 0)) marked_is

pub before_other : (words : List ℕ) (k : ℕ) → is_marked words k ≡ false → marked_before words (k + 1) ≡ marked_before words k
before_other words k unset =
    before_next words k (k + 1) refl ∙ ap (λ b. marked_before words k + (if b then 1 else 0)) unset ∙ omega arith

pub before_le : (words : List ℕ) (k : ℕ) → marked_before words k ≤ k
before_le words zero = omega arith
before_le words (suc k) = elim (cases_Bool (is_marked words k)) [
  | inl marked_is ↦ omega (arith, before_le words k, before_marked words k marked_is, before_next words k (suc k) (omega arith), before_next words k (k + 1) refl)
  | inr unset ↦ omega (arith, before_le words k, before_other words k unset, before_next words k (suc k) (omega arith), before_next words k (k + 1) refl)
]

pub before_grows : (words : List ℕ) (j k : ℕ) → j ≤ k → marked_before words j ≤ marked_before words k
before_grows words j zero low = let e : j ≡ zero = omega arith in omega (arith, ap (marked_before words) e)
before_grows words j (suc k) low = elim (cases_lt k j) [
  | inl last ↦ let e : j ≡ suc k = omega arith in omega (arith, ap (marked_before words) e)
  | inr earlier ↦ omega (arith, before_grows words j k earlier, before_next words k (suc k) (omega arith))
]

pub before_below : (words : List ℕ) (j k : ℕ) → j < k → IsTrue (is_marked words j) → marked_before words j < marked_before words k
before_below words j k low marked_is = omega (arith, before_marked words j marked_is, before_grows words (j + 1) k (omega arith))

-- two marked places with as many before them are one
pub same_number : (words : List ℕ) (j k : ℕ) → IsTrue (is_marked words j) → IsTrue (is_marked words k) → marked_before words j ≡ marked_before words k → j ≡ k
same_number words j k j_is k_is same = elim (cases_order j k) [
  | inl one ↦ one
  | inr apart ↦ elim apart [
    | inl below ↦ absurd (omega (arith, same, before_below words j k below j_is))
    | inr above ↦ absurd (omega (arith, same, before_below words k j above k_is))
  ]
]

-- ---- the marked place of a number

-- of the marked places below `n`, the one with so many before it
abbrev pub nth_marked : List ℕ → ℕ → ℕ → ℕ
nth_marked words zero i = 0
nth_marked words (suc n) i = if nat_lt i (marked_before words n) then nth_marked words n i else n

pub nth_is : (words : List ℕ) (n i : ℕ) → i < marked_before words n → (nth_marked words n i < n) × (IsTrue (is_marked words (nth_marked words n i)) × (marked_before words (nth_marked words n i) ≡ i))
nth_is words zero i low = absurd (omega arith)
nth_is words (suc n) i low =
    let P : ℕ → Type 0 = λ p. (p < suc n) × (IsTrue (is_marked words p) × (marked_before words p ≡ i)) in
    let next = before_next words n (suc n) (omega arith) in
    elim (cases_lt i (marked_before words n)) [
      | inl below ↦
          let is : nth_marked words n i ≡ nth_marked words (suc n) i = sym (ap (λ b. if b then nth_marked words n i else n) (lt-ltb i (marked_before words n) below)) in
          let rest = nth_is words n i below in
          subst P is (omega (arith, rest.0), rest.1)
      | inr above ↦
          let is : n ≡ nth_marked words (suc n) i = sym (ap (λ b. if b then nth_marked words n i else n) (le-ltb i (marked_before words n) above)) in
          elim (cases_Bool (is_marked words n)) [
            | inl marked_is ↦
                let more = ap {B = ℕ} (λ b. if b then 1 else 0) marked_is in
                subst P is (omega arith, (marked_is, omega (arith, next, more, low, above)))
            | inr unset ↦ let more = ap {B = ℕ} (λ b. if b then 1 else 0) unset in absurd (omega (arith, next, more, low, above))
          ]
    ]

pub nth_of : (words : List ℕ) (n k : ℕ) → k < n → IsTrue (is_marked words k) → nth_marked words n (marked_before words k) ≡ k
nth_of words n k low marked_is =
    let is = nth_is words n (marked_before words k) (before_below words k n low marked_is) in
    same_number words (nth_marked words n (marked_before words k)) k is.1.0 marked_is is.1.1

-- ---- counts by words

word_of : (w j k : ℕ) → k ≡ 64 * w + j → j < 64 → (k / 64 ≡ w) × (k % 64 ≡ j)
word_of w j k is small = (omega (arith, is, small), omega (arith, is, small))

ones_bit : (b : ℕ) → b < 2 → count_ones b ≡ (if b == 1 then 1 else 0)
unfolding lib.Count.ones
ones_bit zero low = refl
ones_bit (suc zero) low = refl
ones_bit (suc (suc b)) low = absurd (omega arith)

-- the marked places before one in a word
pub before_in_word : (words : List ℕ) (w j : ℕ) → j ≤ 64 → marked_before words (64 * w + j) ≡ marked_before words (64 * w) + count_ones (get_or words w 0 % 2 ^ j)
before_in_word words w zero low =
    let none : get_or words w 0 % 2 ^ 0 ≡ 0 = omega arith in
    let e : 64 * w + 0 ≡ 64 * w = omega arith in
    let z = ones_le_self 0 in
    omega (arith, ap (marked_before words) e, ap count_ones none, z)
before_in_word words w (suc j) low =
    let word = get_or words w 0 in
    let here = word_of w j (64 * w + j) refl (omega arith) in
    let one_if : Bool → ℕ = λ b. if b then 1 else 0 in
    let bit : one_if (is_marked words (64 * w + j)) ≡ one_if (bit_at word j == 1) =
    ap (λ v. one_if (bit_at (get_or words v 0) ((64 * w + j) % 64) == 1)) here.0
    ∙ ap (λ i. one_if (bit_at word i == 1)) here.1 in
    let split : word % 2 ^ (1 + j) ≡ (word / 2 ^ j % 2 ^ 1) * 2 ^ j + word % 2 ^ j = mod-pow-add word 1 j in
    let e : 1 + j ≡ suc j = omega arith in
    let f : 64 * w + suc j ≡ (64 * w + j) + 1 = omega arith in
    let more : count_ones (word % 2 ^ suc j) ≡ count_ones (bit_at word j) + count_ones (word % 2 ^ j) =
    ap (λ i. count_ones (word % 2 ^ i)) (sym e) ∙ ap count_ones split
    ∙ ones_cat j (bit_at word j) (word % 2 ^ j) (mod-lt word (pow_pos j)) in
    let one = ones_bit (bit_at word j) (bit_at-lt word j) in
    omega (arith, before_next words (64 * w + j) (64 * w + suc j) f, bit, more, one, before_in_word words w j (omega arith))

pub before_next_word : (words : List ℕ) (w : ℕ) → get_or words w 0 < 2 ^ 64 → marked_before words (64 * (w + 1)) ≡ marked_before words (64 * w) + count_ones (get_or words w 0)
before_next_word words w fits =
    let e : 64 * (w + 1) ≡ 64 * w + 64 = omega arith in
    let whole : get_or words w 0 % 2 ^ 64 ≡ get_or words w 0 = omega (arith, fits) in
    ap (marked_before words) e ∙ before_in_word words w 64 (omega arith)
    ∙ ap (λ n. marked_before words (64 * w) + count_ones n) whole

pub before_at : (words : List ℕ) (k : ℕ) → marked_before words k ≡ marked_before words (64 * (k / 64)) + count_ones (get_or words (k / 64) 0 % 2 ^ (k % 64))
before_at words k =
    let e : k ≡ 64 * (k / 64) + k % 64 = omega arith in
    ap (marked_before words) e ∙ before_in_word words (k / 64) (k % 64) (omega arith)

-- what the counts and the word of a place say
pub before_read : (words before now : List ℕ) (k count word : ℕ) → AreCounts words before → words ≡ now → k / 64 < length now → count ≡ get_or before (k / 64) count → word ≡ get_or words (k / 64) word
    → count + count_ones (bit_and word (1 * 2 ^ (k % 64) % 2 ^ 64 - 1)) ≡ marked_before now k
before_read words before now k count word counts seen inside count_is word_is =
    let within : k / 64 < length words = omega (arith, ap (λ (l : List ℕ). length l) seen, inside) in
    let known : count ≡ get_or before (k / 64) 0 = get_or_read before (k / 64) count (omega (arith, counts.each, within)) count_is 0 in
    let read : word ≡ get_or words (k / 64) 0 = get_or_read words (k / 64) word within word_is 0 in
    let small : k % 64 < 64 = omega arith in
    let mask : bit_and word (1 * 2 ^ (k % 64) % 2 ^ 64 - 1) ≡ get_or words (k / 64) 0 % 2 ^ (k % 64) =
    ap (λ m. bit_and word (m - 1)) (one_shl (k % 64) 64 small) ∙ and_mask word (k % 64) ∙ ap (λ m. m % 2 ^ (k % 64)) read in
    omega (arith, known, counts.counts (k / 64) within, before_at words k, ap count_ones mask, ap (λ ws. marked_before ws k) seen)

-- ---- a place is marked

pub marked_set : (words : List ℕ) (at k : ℕ) → at / 64 < length words
    → is_marked (set words (at / 64) (bit_or (get_or words (at / 64) 0) (1 * 2 ^ (at % 64) % 2 ^ 64))) k ≡ (is_marked words k || k == at)
marked_set words at k inside =
    let old = get_or words (at / 64) 0 in
    let put = bit_or old (1 * 2 ^ (at % 64) % 2 ^ 64) in
    let new = set words (at / 64) put in
    let small : at % 64 < 64 = omega arith in
    elim (cases_eq (k / 64) (at / 64)) [
      | inl word ↦
          let is : get_or new (k / 64) 0 ≡ put = ap (λ w. get_or new w 0) word ∙ get_or-set_same words (at / 64) put 0 inside in
          elim (cases_eq (k % 64) (at % 64)) [
            | inl bit ↦
                let same : k ≡ at = omega (arith, word, bit) in
                let set_here : bit_at (get_or new (k / 64) 0) (k % 64) ≡ 1 =
                ap (λ n. bit_at n (k % 64)) is ∙ ap (bit_at put) bit ∙ bit_at_set_same w64 old (at % 64) small in
                eq-eqb (bit_at (get_or new (k / 64) 0) (k % 64)) 1 set_here
                ∙ sym (or_right (is_marked words k) (k == at) (eq-eqb k at same))
            | inr bit ↦
                let other : k ≢ at = λ same. bit (ap (λ n. n % 64) same) in
                let kept : bit_at (get_or new (k / 64) 0) (k % 64) ≡ bit_at (get_or words (k / 64) 0) (k % 64) =
                ap (λ n. bit_at n (k % 64)) is ∙ bit_at_set_other w64 old (at % 64) small (k % 64) bit
                ∙ ap (λ w. bit_at (get_or words w 0) (k % 64)) (sym word) in
                ap (λ n. n == 1) kept ∙ sym (or_false_right (is_marked words k) (k == at) (ne_eqb k at other))
          ]
      | inr word ↦
          let other : k ≢ at = λ same. word (ap (λ n. n / 64) same) in
          ap (λ n. bit_at n (k % 64) == 1) (get_or-set_other words (at / 64) (k / 64) put 0 word)
          ∙ sym (or_false_right (is_marked words k) (k == at) (ne_eqb k at other))
    ]
  where
    or_false_right : (x y : Bool) → y ≡ false → (x || y) ≡ x
    or_false_right true y unset = refl
    or_false_right false y unset = unset
