-- How far past a square a point lies whose way from the middle is long.
use Rattle.std.proofs.Common.{ℕ, ◌≡◌, ◌+◌, ◌-◌, ◌*◌, ◌<◌, ◌≤◌, sym, ap, arith}
use Rattle.std.proofs.Math.Nat.{mul-le-mul, mul-le-mul_left, le_of_mul-le-mul_left}
use Rattle.fixed_point.specs.Plane.{square}
use Rattle.fixed_point.proofs.Squares.{twice_le}

-- the square of a sum of products is at most the product of the sums of squares
mixed_le : (u v a b : ℕ) → square (u * a + v * b) ≤ (square u + square v) * (square a + square b)
mixed_le u v a b = let cross : 2 * ((u * b) * (v * a)) ≤ (u * b) * (u * b) + (v * a) * (v * a) = twice_le (u * b) (v * a) in omega arith

-- what a unit vector's axes reach by a and b together, their squares reach
reached_past : (n w u v a b : ℕ) → 0 < n → n ≡ square u + square v → w * n ≤ u * a + v * b → n * square w ≤ square a + square b
reached_past n w u v a b positive is far =
    let squares : (w * n) * (w * n) ≤ (u * a + v * b) * (u * a + v * b) = mul-le-mul far far in
    let mixed = mixed_le u v a b in
    let same : (square u + square v) * (square a + square b) ≡ n * (square a + square b) = ap (λ (t : ℕ). t * (square a + square b)) (sym is) in
    let whole : n * (n * square w) ≤ n * (square a + square b) = omega arith in
    le_of_mul-le-mul_left whole positive

-- the same, where they reach d and e, which is past the half sides by a and b
pub reached_sides : (n w p u v d e hw hh : ℕ) → 0 < n → n ≡ square u + square v → w * n + 65536 * (hw * u + hh * v) ≤ p * n → p * n ≤ u * d + v * e
    → n * square w ≤ square (d - 65536 * hw) + square (e - 65536 * hh)
reached_sides n w p u v d e hw hh positive is far turned =
    let a = d - 65536 * hw in let b = e - 65536 * hh in
    let x : u * d ≤ u * (a + 65536 * hw) = mul-le-mul_left u (omega arith) in
    let y : v * e ≤ v * (b + 65536 * hh) = mul-le-mul_left v (omega arith) in
    let both : w * n ≤ u * a + v * b = omega arith in
    reached_past n w u v a b positive is both
