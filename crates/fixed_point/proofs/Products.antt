-- Products of signed numbers, by bounds on the magnitudes of the two.
use Rattle.std.proofs.Common.{◌≤◌, ◌*◌, ◌^◌, ◌≡◌, ◌∙◌, ℕ, ℤ, ◌*ℤ◌, w32, w64, lit<, arith, sym, subst}
use mir.Val.{to_z, of_z}
use Rattle.std.specs.Prelude.{unsigned_abs, FitsSigned}
use Rattle.std.proofs.lemmas.Int.{fits_signed_mul, unsigned_abs-mul, to_z-of_z}
use Rattle.std.proofs.Math.Nat.{mul-le-mul}
use Rattle.fixed_point.proofs.ReadsBack.{magnitude_small}
use Rattle.fixed_point.specs.Plane.{IsUnitVector}
use Rattle.fixed_point.proofs.Squares.{root_le}

-- a number of 32 bits that was widened is the same
pub widened : (raw wide : ℤ) → FitsSigned w32 raw → wide ≡ to_z w32 (of_z w32 raw) → wide ≡ raw
widened raw wide fits e = e ∙ to_z-of_z w32 raw fits

-- the product of two numbers of 32 bits has at most 64
pub fits_64 : (a b : ℤ) → FitsSigned w32 a → FitsSigned w32 b → FitsSigned w64 (a *ℤ b)
fits_64 a b first second = fits_signed_mul w64 a b (2 ^ 31) (2 ^ 31) (magnitude_small a first) (magnitude_small b second) (lit< tt)

-- an offset times a component of a unit vector
pub turned_fits : (a b : ℤ) → unsigned_abs a ≤ 2 ^ 33 → unsigned_abs b ≤ 2 ^ 17 → FitsSigned w64 (a *ℤ b)
turned_fits a b long component = fits_signed_mul w64 a b (2 ^ 33) (2 ^ 17) long component (lit< tt)

pub turned_bounded : (a b : ℤ) → unsigned_abs a ≤ 2 ^ 33 → unsigned_abs b ≤ 2 ^ 17 → unsigned_abs (a *ℤ b) ≤ 2 ^ 50
turned_bounded a b long component =
    let most : unsigned_abs a * unsigned_abs b ≤ 2 ^ 33 * 2 ^ 17 = mul-le-mul long component in
    subst (λ (n : ℕ). n ≤ 2 ^ 50) (sym (unsigned_abs-mul a b)) most

-- the components of a unit vector
pub column_component : (ux uz : ℤ) → IsUnitVector ux uz → unsigned_abs ux ≤ 2 ^ 17
column_component ux uz unit = root_le (unsigned_abs ux) (2 ^ 17) (omega (arith, unit.short))

pub row_component : (ux uz : ℤ) → IsUnitVector ux uz → unsigned_abs uz ≤ 2 ^ 17
row_component ux uz unit = root_le (unsigned_abs uz) (2 ^ 17) (omega (arith, unit.short))
