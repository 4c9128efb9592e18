-- The bits of a number that is moved down, and which of two bits is set.
use Rattle.std.proofs.Common.{ℕ, ◌≡◌, ◌⊎◌, ◌+◌, ◌/◌, ◌%◌, ◌^◌, ◌<◌, max, ap, inl, inr, arith}
use Rattle.std.specs.Int.{bit_at}
use Rattle.std.proofs.lemmas.Bool.{cases_lt}
use Rattle.std.proofs.lemmas.Nat.{shr-shr}

-- a number that is moved down has its bits so much lower
pub bit_at-shr : (n a i : ℕ) → bit_at (n / 2 ^ a) i ≡ bit_at n (a + i)
bit_at-shr n a i = ap (λ m. m % 2) (shr-shr n a i)

-- where the larger of two bits is set, one of them is
pub set_in_either : (a b : ℕ) → a < 2 → b < 2 → max a b ≡ 1 → (a ≡ 1) ⊎ (b ≡ 1)
set_in_either a b small_a small_b set = elim (cases_lt a 1) [
  | inl low ↦ inr (omega (arith, set, low))
  | inr high ↦ inl (omega (arith, high, small_a))
]
