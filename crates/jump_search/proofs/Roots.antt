-- The root of a number is the greatest whose square is no more.
use Rattle.std.proofs.Common.{ℕ, zero, suc, ◌*◌, ◌<◌, ◌≤◌, ◌≡◌, inl, inr, arith, nat_le, cond}
use Rattle.std.proofs.lemmas.Bool.{cases_lt, cond_both, leb-true, leb-false}
use Rattle.std.proofs.Math.Nat.{mul-le-mul}
use Rattle.fixed_point.specs.Plane.{square}
use Rattle.jump_search.specs.Estimates.{root}

-- a number whose square is no less is no less
pub root_le : (s t : ℕ) → square s ≤ square t → s ≤ t
root_le s t squares = elim (cases_lt t s) [
  | inl less ↦ (let more : suc t * suc t ≤ s * s = mul-le-mul less less in absurd (omega (arith, squares)))
  | inr more ↦ more
]

-- the squares of the number and of the next one lie about n
abbrev pub IsRoot : ℕ → ℕ → Type 0
IsRoot n r = (square r ≤ n) × (n < square (suc r))

next_root : (n r : ℕ) → IsRoot n r → IsRoot (suc n) (cond (nat_le (square (suc r)) (suc n)) (suc r) r)
next_root n r (low, high) = cond_both (nat_le (square (suc r)) (suc n)) (suc r) r (λ (x : ℕ). IsRoot (suc n) x)
    (λ is. (leb-true (square (suc r)) (suc n) is, omega (arith, high)))
    (λ not. (omega (arith, low), leb-false (square (suc r)) (suc n) not))

pub root_is : (n : ℕ) → IsRoot n (root n)
unfolding root
root_is zero = (omega arith, omega arith)
root_is (suc n) = next_root n (root n) (root_is n)

-- a number whose square is no more is no more than the root
pub below_root : (n t : ℕ) → square t ≤ n → t ≤ root n
below_root n t low = elim (cases_lt (root n) t) [
  | inl less ↦ (let more : suc (root n) * suc (root n) ≤ t * t = mul-le-mul less less in let high = (root_is n).1 in
      absurd (omega (arith, more, high, low)))
  | inr more ↦ more
]

-- a number whose square is more is more than the root
pub above_root : (n t : ℕ) → n < square t → root n < t
above_root n t high = elim (cases_lt (root n) t) [
  | inl less ↦ less
  | inr more ↦ (let low : t * t ≤ root n * root n = mul-le-mul more more in let least = (root_is n).0 in
      absurd (omega (arith, low, least, high)))
]

-- there is no other such number
pub one_root : (n r : ℕ) → IsRoot n r → r ≡ root n
one_root n r (low, high) =
    let most = below_root n r low in let least = above_root n (suc r) high in omega (arith, most, least)
