-- What words say of the places where a run halts.
use Rattle.std.proofs.Common.{◌≡◌, ℕ, zero, suc, ◌+◌, ◌-◌, ◌*◌, ◌/◌, ◌%◌, ◌^◌, ◌<◌, ◌≤◌, min, max, bit_and, bit_or, List, length, get_or, inl, inr, refl, sym, ap, ap₂, ◌∙◌, subst, arith, w64}
use Rattle.std.specs.Int.{bit_at, leading_zeros}
use Rattle.std.proofs.lemmas.Bool.{cases_lt}
use Rattle.std.proofs.Math.Nat.{zero-max, mod-lt}
use Rattle.std.proofs.lemmas.Nat.{leading_top, div-add-mod', pow_pos}
use Rattle.std.proofs.lemmas.List.{get_or_past}
use Rattle.std.proofs.lemmas.Nat.Bits.{bit_at_lowest, bit_at-suc, bit_at-zero, bit_at_or, bit_at_and, bit_at_not, bit_at_above, bit_at_cat_low, bit_at_cat_high, bit_at_ones, bit_at_ones_above, bit_at-lt}
use Rattle.class_planes.specs.inner.Runs.{bit_in, opening, LaneWords, end_up, IsNext, IsLast}

-- a number from 2 ^ j up to twice that has bit j
one_at : (word j : ℕ) → 2 ^ j ≤ word → word < 2 ^ suc j → bit_at word j ≡ 1
one_at word j low high =
    let twice : 2 ^ suc j ≡ 2 ^ j + 2 ^ j = omega arith in
    let rest : ℕ = word - 2 ^ j in
    let same : 1 * 2 ^ j + rest ≡ word = omega arith in
    let at : j - j ≡ 0 = omega arith in
    subst (λ n. bit_at n j ≡ 1) same
    (bit_at_cat_high 1 j rest j (omega arith) (omega arith) ∙ ap (bit_at 1) at)

-- the highest set bit
pub top_bit : (word : ℕ) → 0 < word → word < 2 ^ 64
    → (bit_at word (63 - leading_zeros w64 word) ≡ 1) × ((k : ℕ) → 63 - leading_zeros w64 word < k → bit_at word k ≡ 0)
top_bit word some fits =
    let top = leading_top 64 word some fits in
    let j : ℕ = top.0 in
    let sum = top.1 in
    let here : 63 - leading_zeros w64 word ≡ j = omega (arith, sum) in (
      subst (λ k. bit_at word k ≡ 1) (sym here) (one_at word j top.2 top.3),
      λ k above. bit_at_above word (suc j) k top.3 (omega (arith, here, above)),
    )

-- a set bit that was moved down stands in the same word
pub stays_here : (from m ends after : ℕ) → ends < 2 ^ 64
    → ((n : ℕ) → bit_at after n ≡ bit_at ends (from % 64 + 1 + n)) → bit_at after m ≡ 1
    → (from + 1 + m) / 64 ≡ from / 64
stays_here from m ends after fits moved set = elim (cases_lt (from % 64 + 1 + m) 64) [
  | inl low ↦ omega (arith, low)
  | inr high ↦
      let none : bit_at ends (from % 64 + 1 + m) ≡ 0 = bit_at_above ends 64 (from % 64 + 1 + m) fits high in
      let one = moved m in
      absurd (omega (arith, none, one, set))
]

-- the bit of a place, by its word
pub in_word : (line : List ℕ) (w k : ℕ) → k < 64 → bit_in line (64 * w + k) ≡ bit_at (get_or line w 0) k
in_word line w k small =
    let word : (64 * w + k) / 64 ≡ w = omega (arith, small) in
    let place : (64 * w + k) % 64 ≡ k = omega (arith, small) in
    ap (λ v. bit_at (get_or line v 0) ((64 * w + k) % 64)) word ∙ ap (bit_at (get_or line w 0)) place

pub of_word : (line : List ℕ) (w k i : ℕ) → k < 64 → i ≡ 64 * w + k → bit_at (get_or line w 0) k ≡ bit_in line i
of_word line w k i small is = sym (in_word line w k small) ∙ ap (bit_in line) (sym is)

-- a word moved up by one bit
doubled : (x m : ℕ) → m < 63 → bit_at (x * 2 % 18446744073709551616) (suc m) ≡ bit_at x m
doubled x m below =
    let half : x * 2 % 18446744073709551616 / 2 ≡ x % 9223372036854775808 = omega arith in
    let whole : (x / 9223372036854775808) * 2 ^ 63 + x % 9223372036854775808 ≡ x = omega arith in
    bit_at-suc (x * 2 % 18446744073709551616) m ∙ ap (λ n. bit_at n m) half
    ∙ sym (bit_at_cat_low (x / 9223372036854775808) 63 (x % 9223372036854775808) m below)
    ∙ ap (λ n. bit_at n m) whole

-- a word moved up by one bit, with another bit let in
pub moved_low : (x c : ℕ) → bit_at (bit_or (x * 2 % 18446744073709551616) c) 0 ≡ bit_at c 0
moved_low x c =
    let even : bit_at (x * 2 % 18446744073709551616) 0 ≡ 0 = bit_at_lowest (x * 2 % 18446744073709551616) ∙ omega arith
    in
    bit_at_or (x * 2 % 18446744073709551616) c 0 ∙ ap (λ b. max b (bit_at c 0)) even ∙ zero-max (bit_at c 0)

moved_high : (x c m : ℕ) → c < 2 → m < 63 → bit_at (bit_or (x * 2 % 18446744073709551616) c) (suc m) ≡ bit_at x m
moved_high x c m small below =
    let none : bit_at c (suc m) ≡ 0 = bit_at_above c 1 (suc m) (omega (arith, small)) (omega arith) in
    let kept = doubled x m below in
    let either = bit_at_or (x * 2 % 18446744073709551616) c (suc m) in
    omega (arith, either, none, kept)

-- the word of a line, moved by one bit
pub shifted_up : (line : List ℕ) (w k : ℕ) → 0 < k → k < 64
    → bit_at (get_or line w 0 * 2 % 18446744073709551616) k ≡ bit_in line (64 * w + k - 1)
shifted_up line w zero some below = absurd (omega (arith, some))
shifted_up line w (suc m) some below =
    doubled (get_or line w 0) m (omega (arith, below)) ∙ of_word line w m (64 * w + suc m - 1) (omega (arith, below))
    (omega arith)

pub shifted_down : (line : List ℕ) (w k : ℕ) → k < 63 → bit_at (get_or line w 0 / 2) k ≡ bit_in line (64 * w + k + 1)
shifted_down line w k below =
    sym (bit_at-suc (get_or line w 0) k) ∙ of_word line w (suc k) (64 * w + k + 1) (omega (arith, below)) (omega arith)

-- word w moved up, where the highest bit of the word before is let in
pub up_bit : (line : List ℕ) (w c k : ℕ) → k < 64 → 0 < 64 * w + k → c < 2
    → (0 < w → bit_at c 0 ≡ bit_in line (64 * w - 1))
    → bit_at (bit_or (get_or line w 0 * 2 % 18446744073709551616) c) k ≡ bit_in line (64 * w + k - 1)
up_bit line w c zero below some small carry =
    let same : 64 * w - 1 ≡ 64 * w + zero - 1 = omega arith in
    moved_low (get_or line w 0) c ∙ carry (omega (arith, some)) ∙ ap (bit_in line) same
up_bit line w c (suc m) below some small carry =
    moved_high (get_or line w 0) c m small (omega (arith, below))
    ∙ of_word line w m (64 * w + suc m - 1) (omega (arith, below)) (omega arith)

-- the highest bit of a word
pub carry_up : (line : List ℕ) (v i : ℕ) → i ≡ 64 * v + 63
    → bit_at (get_or line v 0 / 9223372036854775808) 0 ≡ bit_in line i
carry_up line v i is =
    let x : ℕ = get_or line v 0 in
    bit_at_lowest (x / 9223372036854775808) ∙ of_word line v 63 i (omega arith) is

-- a word moved down by one bit, with another bit let in at its top
down_low : (x y m : ℕ) → m < 63
    → bit_at (bit_or (x / 2) (y * 9223372036854775808 % 18446744073709551616)) m ≡ bit_at x (suc m)
down_low x y m below =
    let top : y * 9223372036854775808 % 18446744073709551616 ≡ (y % 2) * 2 ^ 63 + 0 = omega arith in
    let none : bit_at (y * 9223372036854775808 % 18446744073709551616) m ≡ 0 =
    ap (λ n. bit_at n m) top ∙ bit_at_cat_low (y % 2) 63 0 m below ∙ bit_at-zero m in
    let kept : bit_at (x / 2) m ≡ bit_at x (suc m) = sym (bit_at-suc x m) in
    let either = bit_at_or (x / 2) (y * 9223372036854775808 % 18446744073709551616) m in
    omega (arith, either, none, kept)

down_top : (x y : ℕ) → x < 18446744073709551616
    → bit_at (bit_or (x / 2) (y * 9223372036854775808 % 18446744073709551616)) 63 ≡ bit_at y 0
down_top x y fits =
    let top : y * 9223372036854775808 % 18446744073709551616 ≡ (y % 2) * 2 ^ 63 + 0 = omega arith in
    let same : y % 2 % 2 ≡ y % 2 = omega arith in
    let carried : bit_at (y * 9223372036854775808 % 18446744073709551616) 63 ≡ bit_at y 0 =
    ap (λ n. bit_at n 63) top ∙ bit_at_cat_high (y % 2) 63 0 63 (omega arith) (omega arith) ∙ bit_at_lowest (y % 2) ∙
    same ∙ sym (bit_at_lowest y) in
    let none : bit_at (x / 2) 63 ≡ 0 = bit_at_above (x / 2) 63 63 (omega (arith, fits)) (omega arith) in
    let either = bit_at_or (x / 2) (y * 9223372036854775808 % 18446744073709551616) 63 in
    omega (arith, either, none, carried)

-- word w moved down, where the lowest bit of the word after is let in
pub down_bit : (line : List ℕ) (w y k : ℕ) → k < 64 → get_or line w 0 < 18446744073709551616
    → bit_at y 0 ≡ bit_in line (64 * w + 64)
    → bit_at (bit_or (get_or line w 0 / 2) (y * 9223372036854775808 % 18446744073709551616)) k ≡ bit_in line
    (64 * w + k + 1)
down_bit line w y k below fits carry = elim (cases_lt k 63) [
  | inl low ↦
      down_low (get_or line w 0) y k low ∙ of_word line w (suc k) (64 * w + k + 1) (omega (arith, low)) (omega arith)
  | inr high ↦
      let last : k ≡ 63 = omega (arith, below, high) in
      let same : 64 * w + 64 ≡ 64 * w + k + 1 = omega (arith, last) in
      ap (bit_at (bit_or (get_or line w 0 / 2) (y * 9223372036854775808 % 18446744073709551616))) last
      ∙ down_top (get_or line w 0) y fits ∙ carry ∙ ap (bit_in line) same
]

-- the bits of the places where a side opens
pub openings_bit : (left lb right rb k : ℕ) → k < 64 → lb < 18446744073709551616 → rb < 18446744073709551616
    → bit_at (bit_or (bit_and left (18446744073709551615 - lb)) (bit_and right (18446744073709551615 - rb))) k
    ≡ max (opening (bit_at lb k) (bit_at left k)) (opening (bit_at rb k) (bit_at right k))
openings_bit left lb right rb k below lb_fits rb_fits =
    let not_lb : bit_at (18446744073709551615 - lb) k ≡ 1 - bit_at lb k = bit_at_not w64 lb k lb_fits below in
    let not_rb : bit_at (18446744073709551615 - rb) k ≡ 1 - bit_at rb k = bit_at_not w64 rb k rb_fits below in
    bit_at_or (bit_and left (18446744073709551615 - lb)) (bit_and right (18446744073709551615 - rb)) k
    ∙ ap₂ max
    (bit_at_and left (18446744073709551615 - lb) k ∙ ap (min (bit_at left k)) not_lb)
    (bit_at_and right (18446744073709551615 - rb) k ∙ ap (min (bit_at right k)) not_rb)

-- the bits of the places where a run halts
pub halting_bit : (mid sides k : ℕ) → k < 64 → mid < 18446744073709551616
    → bit_at (bit_or (18446744073709551615 - mid) sides) k ≡ max (1 - bit_at mid k) (bit_at sides k)
halting_bit mid sides k below mid_fits =
    let not_mid : bit_at (18446744073709551615 - mid) k ≡ 1 - bit_at mid k = bit_at_not w64 mid k mid_fits below in
    bit_at_or (18446744073709551615 - mid) sides k ∙ ap (λ b. max b (bit_at sides k)) not_mid

-- the bits of a word that is moved down
pub bit_after : (word k m : ℕ) → bit_at (word / 2 ^ k / 2) m ≡ bit_at word (k + 1 + m)
bit_after word k m =
    let rest : word % 2 ^ k < 2 ^ k = mod-lt word (pow_pos k) in
    let parts : word / 2 ^ k * 2 ^ k + word % 2 ^ k ≡ word = div-add-mod' word (2 ^ k) in
    let place : k + 1 + m - k ≡ suc m = omega arith in
    sym (bit_at-suc (word / 2 ^ k) m)
    ∙ ap (bit_at (word / 2 ^ k)) (sym place)
    ∙ sym (bit_at_cat_high (word / 2 ^ k) k (word % 2 ^ k) (k + 1 + m) rest (omega arith))
    ∙ ap (λ n. bit_at n (k + 1 + m)) parts

pub mask_below : (word k m : ℕ) → m < k → bit_at (bit_and word (2 ^ k - 1)) m ≡ bit_at word m
mask_below word k m below =
    let one = bit_at_ones k m below in
    let both = bit_at_and word (2 ^ k - 1) m in
    let bit = bit_at-lt word m in
    omega (arith, one, both, bit)

pub mask_above : (word k m : ℕ) → k ≤ m → bit_at (bit_and word (2 ^ k - 1)) m ≡ 0
mask_above word k m above =
    let none = bit_at_ones_above k m above in
    let both = bit_at_and word (2 ^ k - 1) m in
    omega (arith, none, both)

-- the bits of a word of ends, where the sides' bits of the cell before are known
pub ends_bit : (mid left right : List ℕ) (w k p lb rb r : ℕ) → k < 64
    → bit_at r k ≡ max (1 - bit_at (get_or mid w 0) k)
    (max (opening (bit_at lb k) (bit_at (get_or left w 0) k)) (opening (bit_at rb k) (bit_at (get_or right w 0) k)))
    → bit_at lb k ≡ bit_in left p → bit_at rb k ≡ bit_in right p
    → bit_at r k ≡ max (1 - bit_in mid (64 * w + k))
    (max (opening (bit_in left p) (bit_in left (64 * w + k)))
    (opening (bit_in right p) (bit_in right (64 * w + k))))
ends_bit mid left right w k p lb rb r below is before_left before_right =
    let here = λ (line : List ℕ). of_word line w k (64 * w + k) below refl in
    is
    ∙ ap₂ (λ a b. max (1 - a) b) (here mid)
    (ap₂ max (ap₂ opening before_left (here left)) (ap₂ opening before_right (here right)))

-- the bits of a word of forced places, where the sides' bits of the cell before are known
pub sides_bit : (left right : List ℕ) (w k p lb rb r : ℕ) → k < 64
    → bit_at r k ≡ max (opening (bit_at lb k) (bit_at (get_or left w 0) k))
    (opening (bit_at rb k) (bit_at (get_or right w 0) k))
    → bit_at lb k ≡ bit_in left p → bit_at rb k ≡ bit_in right p
    → bit_at r k ≡ max (opening (bit_in left p) (bit_in left (64 * w + k)))
    (opening (bit_in right p) (bit_in right (64 * w + k)))
sides_bit left right w k p lb rb r below is before_left before_right =
    let here = λ (line : List ℕ). of_word line w k (64 * w + k) below refl in
    is ∙ ap₂ max (ap₂ opening before_left (here left)) (ap₂ opening before_right (here right))

-- the first place with a bit, where the words before have none
pub next_in : (bit : ℕ → ℕ) (from w t word : ℕ) → t < 64 → from < 64 * w → ((i : ℕ) → from < i → i < 64 * w → bit i ≡ 0)
    → ((k : ℕ) → k < 64 → 0 < 64 * w + k → bit_at word k ≡ bit (64 * w + k)) → bit_at word t ≡ 1 →
    ((k : ℕ) → k < t → bit_at word k ≡ 0)
    → IsNext bit from (64 * w + t)
next_in bit from w t word small beyond before are set lower = record {
  after = omega arith;
  set = sym (are t small (omega (arith, beyond))) ∙ set;
  none = λ i past below. elim (cases_lt i (64 * w)) [
    | inl old ↦ before i past old
    | inr new ↦
        let there : 64 * w + (i - 64 * w) ≡ i = omega (arith, new) in
        subst (λ n. bit n ≡ 0) there
        (sym (are (i - 64 * w) (omega (arith, below, small)) (omega (arith, new, beyond))) ∙ lower (i - 64 * w)
        (omega (arith, below, new)))
  ];
}

pub none_in : (bit : ℕ → ℕ) (from w word : ℕ) → from < 64 * w → ((i : ℕ) → from < i → i < 64 * w → bit i ≡ 0)
    → ((k : ℕ) → k < 64 → 0 < 64 * w + k → bit_at word k ≡ bit (64 * w + k)) → word ≡ 0
    → (i : ℕ) → from < i → i < 64 * (w + 1) → bit i ≡ 0
none_in bit from w word beyond before are none i past below = elim (cases_lt i (64 * w)) [
  | inl old ↦ before i past old
  | inr new ↦
      let there : 64 * w + (i - 64 * w) ≡ i = omega (arith, new) in
      subst (λ n. bit n ≡ 0) there
      (sym (are (i - 64 * w) (omega (arith, below, new)) (omega (arith, new, beyond))) ∙ ap (λ n. bit_at n (i - 64 * w))
      none ∙ bit_at-zero (i - 64 * w))
]

-- the first place with a bit in the word of the place itself
pub next_here : (bit : ℕ → ℕ) (from t word after : ℕ) → word < 2 ^ 64
    → ((k : ℕ) → 0 < k → k < 64 → bit_at word k ≡ bit (64 * (from / 64) + k))
    → ((m : ℕ) → bit_at after m ≡ bit_at word (from % 64 + 1 + m))
    → bit_at after t ≡ 1 → ((k : ℕ) → k < t → bit_at after k ≡ 0)
    → IsNext bit from (from + 1 + t)
next_here bit from t word after fits are moved set lower = elim (cases_lt (from % 64 + 1 + t) 64) [
  | inl small ↦
      let there : 64 * (from / 64) + (from % 64 + 1 + t) ≡ from + 1 + t = omega arith in
      record {
        after = omega arith;
        set = subst (λ n. bit n ≡ 1) there (sym (are (from % 64 + 1 + t) (omega arith) small) ∙ sym (moved t) ∙ set);
        none = λ i past below.
            let k : ℕ = i - (from + 1) in
            let at : 64 * (from / 64) + (from % 64 + 1 + k) ≡ i = omega (arith, past, below) in
            subst (λ n. bit n ≡ 0) at
            (sym (are (from % 64 + 1 + k) (omega arith) (omega (arith, small, below, past))) ∙ sym (moved k) ∙ lower
            k (omega (arith, below, past)));
      }
  | inr big ↦
      let none = bit_at_above word 64 (from % 64 + 1 + t) fits big in
      let one = moved t in
      absurd (omega (arith, none, one, set))
]

pub none_here : (bit : ℕ → ℕ) (from word after : ℕ)
    → ((k : ℕ) → 0 < k → k < 64 → bit_at word k ≡ bit (64 * (from / 64) + k))
    → ((m : ℕ) → bit_at after m ≡ bit_at word (from % 64 + 1 + m)) → after ≡ 0
    → (i : ℕ) → from < i → i < 64 * (from / 64 + 1) → bit i ≡ 0
none_here bit from word after are moved none i past below =
    let k : ℕ = i - (from + 1) in
    let at : 64 * (from / 64) + (from % 64 + 1 + k) ≡ i = omega (arith, past, below) in
    subst (λ n. bit n ≡ 0) at
    (sym (are (from % 64 + 1 + k) (omega arith) (omega (arith, below, past))) ∙ sym (moved k) ∙ ap (λ n. bit_at n k)
    none ∙ bit_at-zero k)

-- past the last word a run has ended
pub past_line : (line : List ℕ) (i : ℕ) → length line ≤ i / 64 → bit_in line i ≡ 0
past_line line i past = ap (λ n. bit_at n (i % 64)) (get_or_past line (i / 64) 0 past) ∙ bit_at-zero (i % 64)

pub end_past : (lanes : LaneWords) → end_up lanes (64 * length lanes.mid) ≡ 1
end_past lanes =
    let i : ℕ = 64 * length lanes.mid in
    let none : bit_in lanes.mid i ≡ 0 = past_line lanes.mid i (omega arith) in
    let left = bit_at-lt (get_or lanes.left (i / 64) 0) (i % 64) in
    let right = bit_at-lt (get_or lanes.right (i / 64) 0) (i % 64) in
    omega (arith, none, left, right)

-- the last place with a bit, where the words after have none
pub last_in : (bit : ℕ → ℕ) (from w t word : ℕ) → t < 64 → 64 * w + 64 ≤ from
    → ((i : ℕ) → 64 * (w + 1) ≤ i → i < from → bit i ≡ 0)
    → ((k : ℕ) → k < 64 → bit_at word k ≡ bit (64 * w + k)) → bit_at word t ≡ 1 → ((k : ℕ) → t < k → bit_at word k ≡ 0)
    → IsLast bit from (64 * w + t)
last_in bit from w t word small beyond after are set higher = record {
  before = omega (arith, small, beyond);
  set = sym (are t small) ∙ set;
  none = λ i past below. elim (cases_lt i (64 * (w + 1))) [
    | inl new ↦
        let there : 64 * w + (i - 64 * w) ≡ i = omega (arith, past) in
        subst (λ n. bit n ≡ 0) there
        (sym (are (i - 64 * w) (omega (arith, new))) ∙ higher (i - 64 * w) (omega (arith, past)))
    | inr old ↦ after i old below
  ];
}

pub none_under : (bit : ℕ → ℕ) (from w word : ℕ) → ((i : ℕ) → 64 * (w + 1) ≤ i → i < from → bit i ≡ 0)
    → ((k : ℕ) → k < 64 → bit_at word k ≡ bit (64 * w + k)) → word ≡ 0
    → (i : ℕ) → 64 * w ≤ i → i < from → bit i ≡ 0
none_under bit from w word after are none i past below = elim (cases_lt i (64 * (w + 1))) [
  | inl new ↦
      let there : 64 * w + (i - 64 * w) ≡ i = omega (arith, past) in
      subst (λ n. bit n ≡ 0) there
      (sym (are (i - 64 * w) (omega (arith, new))) ∙ ap (λ n. bit_at n (i - 64 * w)) none ∙ bit_at-zero (i - 64 * w))
  | inr old ↦ after i old below
]

-- the last place with a bit in the word of the place itself
pub last_here : (bit : ℕ → ℕ) (from t word before : ℕ) → ((k : ℕ) → k < 63 → bit_at word k ≡ bit (64 * (from / 64) + k))
    → ((m : ℕ) → m < from % 64 → bit_at before m ≡ bit_at word m) → ((m : ℕ) → from % 64 ≤ m → bit_at before m ≡ 0)
    → bit_at before t ≡ 1 → ((k : ℕ) → t < k → bit_at before k ≡ 0)
    → IsLast bit from (64 * (from / 64) + t)
last_here bit from t word before are kept none set higher = elim (cases_lt t (from % 64)) [
  | inl small ↦ record {
    before = omega (arith, small);
    set = sym (are t (omega (arith, small))) ∙ sym (kept t small) ∙ set;
    none = λ i past below.
        let k : ℕ = i - 64 * (from / 64) in
        let at : 64 * (from / 64) + k ≡ i = omega (arith, past, below) in
        subst (λ n. bit n ≡ 0) at
        (sym (are k (omega (arith, below, past))) ∙ sym (kept k (omega (arith, below, past))) ∙ higher k
        (omega (arith, below, past)));
  }
  | inr big ↦ let zero_bit = none t big in absurd (omega (arith, zero_bit, set))
]

pub none_before : (bit : ℕ → ℕ) (from word before : ℕ) → ((k : ℕ) → k < 63 → bit_at word k ≡ bit (64 * (from / 64) + k))
    → ((m : ℕ) → m < from % 64 → bit_at before m ≡ bit_at word m) → before ≡ 0
    → (i : ℕ) → 64 * (from / 64) ≤ i → i < from → bit i ≡ 0
none_before bit from word before are kept none i past below =
    let k : ℕ = i - 64 * (from / 64) in
    let at : 64 * (from / 64) + k ≡ i = omega (arith, past) in
    subst (λ n. bit n ≡ 0) at
    (sym (are k (omega (arith, below, past))) ∙ sym (kept k (omega (arith, below, past))) ∙ ap (λ n. bit_at n k) none ∙
    bit_at-zero k)
