-- Between two places of a row no cell lies deeper out of a goal that is turned inside out than the one place or the other.
use Rattle.std.proofs.Common.{ℕ, ◌≡◌, ◌+◌, ◌-◌, ◌*◌, ◌<◌, ◌≤◌, ◌⊎◌, inl, inr, suc, zero, arith, min, ℤ, pos, negsuc, ◌+ℤ◌, ◌-ℤ◌, ◌*ℤ◌, ◌≤ℤ◌, ◌<ℤ◌}
use borrow.Author.Differences.{up, down}
use Rattle.std.specs.Prelude.{unsigned_abs}
use Rattle.std.proofs.lemmas.Int.{ints}
use Rattle.std.proofs.lemmas.Bool.{cases_lt}
use Rattle.std.proofs.Math.Nat.{mul-le-mul, mul-le-mul_left, le-min, min-le_left, min-le_right}
use Rattle.fixed_point.specs.Plane.{square}

-- ---- numbers along a row

-- a number stays along the places of a row, or grows, or falls
abbrev pub IsSteady : ℤ → ℤ → ℤ → Type 0
IsSteady a k b = ((a ≡ k) × (k ≡ b)) ⊎ (((a ≤ℤ k) × (k <ℤ b)) ⊎ ((k ≤ℤ a) × (b <ℤ k)))

times : (n : ℕ) (p q : ℤ) → p ≤ℤ q → n * (up p + down q) ≤ n * (up q + down p)
times n p q order = mul-le-mul_left n (omega (arith, ints))

times_more : (n : ℕ) (p q : ℤ) → p <ℤ q → n * (up p + down q + 1) ≤ n * (up q + down p)
times_more n p q order = mul-le-mul_left n (omega (arith, ints))

pub steady_sum : (u t p q r : ℤ) → p ≤ℤ q → q <ℤ r → IsSteady (p *ℤ u +ℤ t) (q *ℤ u +ℤ t) (r *ℤ u +ℤ t)
steady_sum (pos zero) t p q r first second = inl (omega (arith, ints), omega (arith, ints))
steady_sum (pos (suc n)) t p q r first second =
    let a = times (suc n) p q first in let b = times_more (suc n) q r second in inr (inl (omega (arith, ints), omega (arith, ints)))
steady_sum (negsuc n) t p q r first second =
    let a = times (suc n) p q first in let b = times_more (suc n) q r second in inr (inr (omega (arith, ints), omega (arith, ints)))

pub steady_difference : (u t p q r : ℤ) → p ≤ℤ q → q <ℤ r → IsSteady (t -ℤ p *ℤ u) (t -ℤ q *ℤ u) (t -ℤ r *ℤ u)
steady_difference (pos zero) t p q r first second = inl (omega (arith, ints), omega (arith, ints))
steady_difference (pos (suc n)) t p q r first second =
    let a = times (suc n) p q first in let b = times_more (suc n) q r second in inr (inr (omega (arith, ints), omega (arith, ints)))
steady_difference (negsuc n) t p q r first second =
    let a = times (suc n) p q first in let b = times_more (suc n) q r second in inr (inl (omega (arith, ints), omega (arith, ints)))

-- what goes steadily is nowhere further from 0 than at one of the ends, and less far than at the later one where it is
-- further than at the first
pub further_at_end : (a k b : ℤ) → IsSteady a k b → unsigned_abs a < unsigned_abs k → unsigned_abs k < unsigned_abs b
further_at_end a k b (inl (first, second)) less = let same : unsigned_abs a ≡ unsigned_abs k = omega (arith, ints) in absurd (omega arith)
further_at_end a k b (inr (inl (first, second))) less = omega (arith, ints)
further_at_end a k b (inr (inr (first, second))) less = omega (arith, ints)

-- ---- ranks along a row

-- the rank at a place is no less than at the one end, or greater than at the other
abbrev pub IsOutdone : ℕ → ℕ → ℕ → Type 0
IsOutdone a k b = (a ≤ k) ⊎ (b < k)

pub within_outdone : (h : ℕ) (u v w : ℤ) → IsSteady u v w → 0 < h - unsigned_abs w
    → IsOutdone (h - unsigned_abs u) (h - unsigned_abs v) (h - unsigned_abs w)
within_outdone h u v w steady deep = elim (cases_lt (unsigned_abs u) (unsigned_abs v)) [
  | inl more ↦ (let end = further_at_end u v w steady more in inr (omega arith))
  | inr less ↦ inl (omega arith)
]

pub min_outdone : (fa fk fb ga gk gb : ℕ) → IsOutdone fa fk fb → IsOutdone ga gk gb → IsOutdone (min fa ga) (min fk gk) (min fb gb)
min_outdone fa fk fb ga gk gb f g =
    let a = min-le_left fa ga in let a' = min-le_right fa ga in let b = min-le_left fb gb in let b' = min-le_right fb gb in
    elim (cases_lt fk gk) as (λ _. IsOutdone (min fa ga) (min fk gk) (min fb gb)) [
      | inl less ↦
          let own : fk ≤ min fk gk = le-min {a = fk} {b = gk} (omega arith) (omega arith) in
          elim f [ inl h ↦ inl (omega arith) | inr h ↦ inr (omega arith) ]
      | inr more ↦
          let own : gk ≤ min fk gk = le-min {a = fk} {b = gk} more (omega arith) in
          elim g [ inl h ↦ inl (omega arith) | inr h ↦ inr (omega arith) ]
    ]

pub disc_outdone : (m s : ℕ) (u v w : ℤ) → u ≤ℤ v → v <ℤ w → 0 < m - (square (unsigned_abs w) + s)
    → IsOutdone (m - (square (unsigned_abs u) + s)) (m - (square (unsigned_abs v) + s)) (m - (square (unsigned_abs w) + s))
disc_outdone m s u v w first second deep = elim (cases_lt (unsigned_abs u) (unsigned_abs v)) [
  | inl more ↦
      let end = further_at_end u v w (inr (inl (first, second))) more in
      let squares : suc (unsigned_abs v) * suc (unsigned_abs v) ≤ unsigned_abs w * unsigned_abs w = mul-le-mul end end in inr (omega arith)
  | inr less ↦ (let squares : unsigned_abs v * unsigned_abs v ≤ unsigned_abs u * unsigned_abs u = mul-le-mul less less in inl (omega arith))
]
