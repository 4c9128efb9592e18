-- How far from a square's middle a cell near the square can lie.
use Rattle.std.proofs.Common.{ℕ, ◌+◌, ◌-◌, ◌*◌, ◌/◌, ◌^◌, ◌<◌, ◌≤◌, ⊎_elim, arith}
use Rattle.std.proofs.lemmas.Bool.{cases_lt}
use Rattle.std.proofs.Math.Nat.{mul-le-mul, mul-le-mul_left}
use Rattle.fixed_point.proofs.Squares.{root_le}

-- the components of a unit vector
pub component_le : (u v : ℕ) → u * u + v * v ≤ 2 ^ 32 + 2 ^ 25 → u ≤ 65792
component_le u v short =
    ⊎_elim (λ (g : 65792 < u). let k : 65793 * 65793 ≤ u * u = mul-le-mul g g in absurd (omega arith)) (λ (l : u ≤ 65792). l) (cases_lt 65792 u)

-- what the turn back gives, from bounds on both lengths
near_one : (p u v d e w h c : ℕ) → p * (u * u + v * v) ≤ u * d + v * e → 2 ^ 32 ≤ u * u + v * v + 2 ^ 25 → u ≤ 65792 → v ≤ 65792
    → d ≤ 65536 * (w + c) → e ≤ 65536 * (h + c) → p ≤ (w + h + 2 * c) + (w + h + 2 * c) / 64
near_one p u v d e w h c back long small_u small_v near_d near_e =
    let first : u * d ≤ 65792 * (65536 * (w + c)) = mul-le-mul small_u near_d in
    let second : v * e ≤ 65792 * (65536 * (h + c)) = mul-le-mul small_v near_e in
    let least : p * (65536 * 65024) ≤ p * (u * u + v * v) = mul-le-mul_left p (omega arith) in
    omega arith

-- a length past its half side is no longer than the clearance
pub within : (d w c rest : ℕ) → (d - 65536 * w) * (d - 65536 * w) + rest ≤ (65536 * c) * (65536 * c) → d ≤ 65536 * (w + c)
within d w c rest near = let root = root_le (d - 65536 * w) (65536 * c) (omega arith) in omega arith

-- a point no further than the clearance from the square lies within the extent, a 64th of it and 1, along both axes
pub near_both : (p q u v d e w h c : ℕ) → p * (u * u + v * v) ≤ u * d + v * e → q * (v * v + u * u) ≤ v * d + u * e
    → 2 ^ 32 ≤ u * u + v * v + 2 ^ 25 → u * u + v * v ≤ 2 ^ 32 + 2 ^ 25
    → (d - 65536 * w) * (d - 65536 * w) + (e - 65536 * h) * (e - 65536 * h) ≤ (65536 * c) * (65536 * c)
    → (p ≤ (w + h + 2 * c) + (w + h + 2 * c) / 64 + 1) × (q ≤ (w + h + 2 * c) + (w + h + 2 * c) / 64 + 1)
near_both p q u v d e w h c column_back row_back long short near =
    let small_u : u ≤ 65792 = component_le u v short in
    let small_v : v ≤ 65792 = component_le v u (omega arith) in
    let near_d : d ≤ 65536 * (w + c) = within d w c ((e - 65536 * h) * (e - 65536 * h)) near in
    let near_e : e ≤ 65536 * (h + c) = within e h c ((d - 65536 * w) * (d - 65536 * w)) (omega arith) in
    let column = near_one p u v d e w h c column_back long small_u small_v near_d near_e in
    let row = near_one q v u d e w h c row_back (omega arith) small_v small_u near_d near_e in
    (omega arith, omega arith)
