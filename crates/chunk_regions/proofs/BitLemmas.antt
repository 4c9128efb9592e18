-- The bits of a row: shifted, with one more on top, and without the lowest set one.
use Rattle.std.proofs.Common.{ℕ, zero, suc, Bool, true, false, ◌≡◌, ◌≢◌, ◌<◌, ◌≤◌, ◌+◌, ◌-◌, ◌*◌, ◌/◌, ◌%◌, ◌^◌, ◌==◌, if◌then◌else◌, bit_and, ap, sym, subst, ◌∙◌, inl, inr, arith}
use Rattle.std.specs.Int.{bit_at, trailing_zeros, w128}
use Rattle.std.proofs.Math.Nat.{div-add-mod}
use Rattle.std.proofs.lemmas.Bool.{cases_lt}
use Rattle.std.proofs.lemmas.Nat.{le-div, mod_below, pow-add, pow_below, pow_pos}
use Rattle.std.proofs.lemmas.Nat.Bits.{bit_at_cat_low, bit_at_cat_high, bit_at_above, bit_at_and, bit_at_lowest, bit_at-suc, bit_at-zero, bit_at-trailing_zeros, same_from_bits_below}

-- a bit's place one further up
pub bit_at-double : (n i : ℕ) → bit_at (n * 2) (suc i) ≡ bit_at n i
bit_at-double n i = let half : n * 2 / 2 ≡ n = omega arith in bit_at-suc (n * 2) i ∙ ap (λ m. bit_at m i) half

-- the lowest set bit of a number is taken away
pub record IsTaken (old place new : ℕ) : Type 0 where
  pub set : bit_at old place ≡ 1
  pub lowest : (k : ℕ) → k < place → bit_at old k ≡ 0
  pub taken : bit_at new place ≡ 0
  pub others : (k : ℕ) → k ≢ place → bit_at new k ≡ bit_at old k

-- below its lowest set bit a number has no rest
low_part : (n t : ℕ) → ((i : ℕ) → i < t → bit_at n i ≡ 0) → n % 2 ^ t ≡ 0
low_part n t clear =
    let whole : n / 2 ^ t * 2 ^ t + n % 2 ^ t ≡ n = let e = div-add-mod n (2 ^ t) in omega arith in
    same_from_bits_below t (n % 2 ^ t) 0 (mod_below n (2 ^ t) (pow_pos t)) (pow_pos t)
    (λ i less. sym (bit_at_cat_low (n / 2 ^ t) t (n % 2 ^ t) i less) ∙ ap (λ m. bit_at m i) whole ∙ clear i less ∙ sym (bit_at-zero i))

-- one less than an odd number: all bits but the lowest are the same
odd_less : (h j : ℕ) → 0 < j → bit_at (h * 2) j ≡ bit_at (h * 2 + 1) j
odd_less h zero some = absurd (omega arith)
odd_less h (suc j) some =
    let half : (h * 2 + 1) / 2 ≡ h = omega arith in
    bit_at-double h j ∙ sym (bit_at-suc (h * 2 + 1) j ∙ ap (λ m. bit_at m j) half)

without_lowest : (n t : ℕ) → bit_at n t ≡ 1 → ((i : ℕ) → i < t → bit_at n i ≡ 0) → IsTaken n t (bit_and n (n - 1))
without_lowest n t one clear =
    let p = 2 ^ t in
    let h = n / p / 2 in
    let whole : n / p * p + n % p ≡ n = let e = div-add-mod n p in omega arith in
    let none = low_part n t clear in
    let odd : h * 2 + 1 ≡ n / p = omega arith in
    let some = pow_pos t in
    let is : (h * 2 + 1) * p + 0 ≡ n = let e = ap (λ m. m * p) odd in omega arith in
    let less : h * 2 * p + (p - 1) ≡ n - 1 = omega arith in
    let both = bit_at_and n (n - 1) in
    record {
      set = one;
      lowest = clear;
      taken =
          let same : t - t ≡ 0 = omega arith in
          let even = bit_at_lowest (h * 2) in
          let low : bit_at (n - 1) t ≡ 0 =
          ap (λ m. bit_at m t) (sym less) ∙ bit_at_cat_high (h * 2) t (p - 1) t (omega arith) (omega arith) ∙ ap (λ k. bit_at (h * 2) k) same ∙ even ∙ omega arith in
          let here = both t in
          omega arith;
      others = λ k other. let here = both k in elim (cases_lt k t) [
        | inl below ↦ let was = clear k below in omega arith
        | inr above ↦ elim (cases_lt t k) [
          | inl further ↦
              let same : bit_at (n - 1) k ≡ bit_at n k =
              ap (λ m. bit_at m k) (sym less) ∙ bit_at_cat_high (h * 2) t (p - 1) k (omega arith) (omega arith)
              ∙ odd_less h (k - t) (omega arith)
              ∙ sym (ap (λ m. bit_at m k) (sym is) ∙ bit_at_cat_high (h * 2 + 1) t 0 k some (omega arith)) in
              omega arith
          | inr equal ↦ absurd (other (omega arith))
        ]
      ];
    }

-- `n & (n - 1)`
pub lowest_taken : (n : ℕ) → 0 < n → n < 2 ^ 97 → IsTaken n (trailing_zeros w128 n) (bit_and n (n - 1))
lowest_taken n some few =
    let low = bit_at-trailing_zeros w128 n some (omega arith) in
    without_lowest n (trailing_zeros w128 n) low.1 low.2

-- a row with one more bit above its others
pub record IsPushed (bits w : ℕ) (passable : Bool) (new : ℕ) : Type 0 where
  pub few : new < 2 ^ (w + 1)
  pub last : (bit_at new w == 1) ≡ passable
  pub others : (k : ℕ) → k < w → bit_at new k ≡ bit_at bits k

pub push_bit : (bits w : ℕ) (passable : Bool) → bits < 2 ^ w → IsPushed bits w passable (bits + (if passable then 2 ^ w else 0))
push_bit bits w true few =
    let sum : bits + 2 ^ w ≡ 1 * 2 ^ w + bits = omega arith in
    record {
      few = let double = pow-add 2 w 1 in omega arith;
      last =
          let none : w - w ≡ 0 = omega arith in
          let lowest : bit_at 1 (w - w) ≡ bit_at 1 0 = ap (λ k. bit_at 1 k) none in
          ap (λ b. b == 1) (ap (λ m. bit_at m w) sum ∙ bit_at_cat_high 1 w bits w few (omega arith) ∙ lowest);
      others = λ k less. ap (λ m. bit_at m k) sum ∙ bit_at_cat_low 1 w bits k less;
    }
push_bit bits w false few =
    let none : bits + 0 ≡ bits = omega arith in
    record {
      few = let double = pow-add 2 w 1 in omega arith;
      last = ap (λ b. b == 1) (ap (λ m. bit_at m w) none ∙ bit_at_above bits w w few (omega arith));
      others = λ k less. ap (λ m. bit_at m k) none;
    }

pub pow_at_most : (i j : ℕ) → i ≤ j → 2 ^ i ≤ 2 ^ j
pow_at_most i j less = elim (cases_lt i j) [
  | inl below ↦ let lower = pow_below i j below in omega arith
  | inr same ↦
      let equal : i ≡ j = omega arith in
      let powers : 2 ^ i ≡ 2 ^ j = ap (λ k. 2 ^ k) equal in
      omega arith
]

-- a row of few bits has no set one further on
pub clear_past : (bits wide column : ℕ) → bits < 2 ^ wide → wide ≤ column → (bit_at bits column == 1) ≡ false
clear_past bits wide column few past = ap (λ b. b == 1) (bit_at_above bits wide column few past)

-- a row without set bits
pub clear_row : (column : ℕ) → (bit_at 0 column == 1) ≡ false
clear_row column = ap (λ b. b == 1) (bit_at-zero column)

-- the set bits of a number that is nothing once shifted stand below the shift
pub set_below : (n k i : ℕ) → n / 2 ^ k ≡ 0 → bit_at n i ≡ 1 → i < k
set_below n k i none set = elim (cases_lt i k) [
  | inl less ↦ less
  | inr past ↦ elim (cases_lt n (2 ^ k)) [
    | inl fits ↦ let clear = bit_at_above n k i fits past in absurd (omega (arith, clear, set))
    | inr large ↦
        let some : 1 ≤ n / 2 ^ k = le-div 1 n (2 ^ k) (pow_pos k) (omega (arith, large)) in
        let never : 1 ≤ 0 = subst (λ q. 1 ≤ q) none some in
        absurd (omega (arith, never))
  ]
]
