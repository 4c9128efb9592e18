use Rattle.std.proofs.Common.{ℕ, Bool, false, ◌≡◌, ◌∙◌, ◌<◌, ◌-◌, ◌==◌, refl, sym, ap, subst, inl, inr, arith, w64}
use Rattle.std.specs.Int.{bit_at}
use Rattle.std.proofs.lemmas.Bool.{cases_lt}
use Rattle.std.proofs.lemmas.Nat.Bits.{bit_at_not, bit_at-lt}
use Rattle.nav_types.specs.Lines.{is_sought}
use Rattle.lane_rows.specs.Rows.{one_if}
use Rattle.class_planes.proofs.free_places.sought_bits.Goals as goal

bit_is : (b : ℕ) → b < 2 → b ≡ one_if (b == 1)
bit_is b small = elim (cases_lt b 1) [
  | inl low ↦ let none : 0 ≡ b = omega (arith, low) in subst (λ n. n ≡ one_if (n == 1)) none refl
  | inr high ↦ let one : 1 ≡ b = omega (arith, high, small) in subst (λ n. n ≡ one_if (n == 1)) one refl
]

bit_is_not : (b : ℕ) → b < 2 → 1 - b ≡ one_if (is_sought false (b == 1))
bit_is_not b small = elim (cases_lt b 1) [
  | inl low ↦ let none : 0 ≡ b = omega (arith, low) in subst (λ n. 1 - n ≡ one_if (is_sought false (n == 1))) none refl
  | inr high ↦ let one : 1 ≡ b = omega (arith, high, small) in subst (λ n. 1 - n ≡ one_if (is_sought false (n == 1))) one refl
]

pub returns-then-free : goal.returns-then-free
returns-then-free c k small =
    bit_is (bit_at c.args.word k) (bit_at-lt c.args.word k)
    ∙ ap (λ (free : Bool). one_if (is_sought free (bit_at c.args.word k == 1))) (sym c.if-free.true)

pub returns-else-free : goal.returns-else-free
returns-else-free c k small =
    bit_at_not w64 c.args.word k c.ranges.word.fits small
    ∙ bit_is_not (bit_at c.args.word k) (bit_at-lt c.args.word k)
    ∙ ap (λ (free : Bool). one_if (is_sought free (bit_at c.args.word k == 1))) (sym c.if-free.false)
