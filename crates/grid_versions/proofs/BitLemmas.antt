-- The passable cells of a chunk as bits.
use Rattle.std.proofs.Common.{ℕ, zero, suc, ◌≡◌, ◌<◌, ◌≤◌, ◌+◌, ◌-◌, ◌*◌, ◌/◌, ◌%◌, ◌^◌, ◌==◌, Bool, true, false, min, List, get_or, refl, ap, sym, ◌∙◌, inl, inr, arith}
use Rattle.std.specs.Prelude.{bit_and}
use Rattle.std.specs.Int.{bit_at}
use Rattle.std.proofs.lemmas.Bool.{cases_lt}
use Rattle.std.proofs.lemmas.Nat.Bits.{bit_at_cat_low, bit_at_cat_high, bit_at_and, bit_at_ones, bit_at-lt}
use Rattle.lane_rows.specs.Rows.{one_if}
use Rattle.nav_types.proofs.Bits.{bit_at-shr}

-- the lesser of a bit and 1
least_one : (b : ℕ) → b < 2 → min b 1 ≡ b
least_one zero low = refl
least_one (suc zero) low = refl
least_one (suc (suc b)) low = absurd (omega arith)

-- the bits of a line from a place in the first half of a word on, in two words
pub two_words : (words : List ℕ) (from low high both k : ℕ) → from % 64 ≤ 32 → low ≡ get_or words (from / 64) 0
    → high ≡ get_or words (from / 64 + 1) 0 → low < 2 ^ 64 → both ≡ high * 2 ^ 64 + low → k < 96
    → bit_at (bit_and (both / 2 ^ (from % 64)) (2 ^ 96 - 1)) k ≡ bit_at (get_or words ((from + k) / 64) 0) ((from + k) % 64)
two_words words from low high both k half low_is high_is small joined few =
    let s = from % 64 in
    let shifted = both / 2 ^ s in
    bit_at_and shifted (2 ^ 96 - 1) k
    ∙ ap (λ b. min (bit_at shifted k) b) (bit_at_ones 96 k few)
    ∙ least_one (bit_at shifted k) (bit_at-lt shifted k)
    ∙ bit_at-shr both s k
    ∙ ap (λ n. bit_at n (s + k)) joined
    ∙ elim (cases_lt (s + k) 64) [
      | inl first ↦
          let word : from / 64 ≡ (from + k) / 64 = omega arith in
          let bit : s + k ≡ (from + k) % 64 = omega arith in
          bit_at_cat_low high 64 low (s + k) first ∙ ap (λ n. bit_at n (s + k)) low_is
          ∙ ap (λ n. bit_at (get_or words n 0) (s + k)) word
          ∙ ap (λ n. bit_at (get_or words ((from + k) / 64) 0) n) bit
      | inr second ↦
          let word : from / 64 + 1 ≡ (from + k) / 64 = omega arith in
          let bit : s + k - 64 ≡ (from + k) % 64 = omega arith in
          bit_at_cat_high high 64 low (s + k) small second ∙ ap (λ n. bit_at n (s + k - 64)) high_is
          ∙ ap (λ n. bit_at (get_or words n 0) (s + k - 64)) word
          ∙ ap (λ n. bit_at (get_or words ((from + k) / 64) 0) n) bit
    ]

-- the bit of a flag is set where the flag is
pub flag_bit : (flag : Bool) → (one_if flag == 1) ≡ flag
flag_bit true = refl
flag_bit false = refl

-- a number that another leaves as it is has no bit that the other has not
least_left : (b c : ℕ) → c < 2 → b ≡ 1 → min b c ≡ b → c ≡ 1
least_left b zero low one same = absurd (omega arith)
least_left b (suc zero) low one same = refl
least_left b (suc (suc c)) low one same = absurd (omega arith)

pub bit_held : (some all k : ℕ) → bit_and some all ≡ some → bit_at some k ≡ 1 → bit_at all k ≡ 1
bit_held some all k same set =
    least_left (bit_at some k) (bit_at all k) (bit_at-lt all k) set (sym (bit_at_and some all k) ∙ ap (λ n. bit_at n k) same)
