-- Squares of numbers.
use Rattle.std.proofs.Common.{◌≡◌, ◌+◌, ◌-◌, ◌*◌, ◌<◌, ◌≤◌, ℕ, suc, inl, inr, subst, ⊎_elim, arith}
use Rattle.std.proofs.lemmas.Bool.{cases_lt}
use Rattle.std.proofs.Math.Nat.{mul-le-mul}
use Rattle.fixed_point.specs.Plane.{square}

-- a square is no more than another only where its root is
pub root_le : (a b : ℕ) → square a ≤ square b → a ≤ b
root_le a b h = ⊎_elim (λ (g : b < a). let k : suc b * suc b ≤ a * a = mul-le-mul g g in absurd (omega arith))
    (λ (l : a ≤ b). l) (cases_lt b a)

-- twice a product is at most the sum of the squares
twice_ordered : (c d : ℕ) → 2 * ((c + d) * c) ≤ square (c + d) + square c
twice_ordered c d = omega arith

pub twice_le : (a c : ℕ) → 2 * (a * c) ≤ square a + square c
twice_le a c = elim (cases_lt c a) [
  | inl more ↦
      let whole : c + (a - c) ≡ a = omega arith in
      subst (λ (t : ℕ). 2 * (t * c) ≤ square t + square c) whole (twice_ordered c (a - c))
  | inr less ↦
      let whole : a + (c - a) ≡ c = omega arith in
      let turned = subst (λ (t : ℕ). 2 * (t * a) ≤ square t + square a) whole (twice_ordered a (c - a)) in omega arith
]
