-- The tests of the plane hold exactly where what they test does.
use Rattle.std.proofs.Common.{◌≡◌, ℕ, ◌+◌, ◌*◌, ◌^◌, ◌≤◌, Bool, true, false, T, ℤ, pos, ◌≤ℤ◌, ◌<ℤ◌, refl, sym, subst, Decides}
use Rattle.std.specs.Prelude.{int_le, int_lt, nat_le, unsigned_abs}
use Rattle.std.specs.Int.Signed.{le_z_yes, lt_z_yes}
use Rattle.std.proofs.lemmas.Bool.{leb-true, le-leb}
use Rattle.std.proofs.lemmas.Bool.Decides.{Decides-like, Decides-and}
use Rattle.fixed_point.specs.Plane.{square, IsUnitVector, IsOnAxis, IsUpTo, is_unit_vector, is_on_axis, is_up_to}

true_from_T : (b : Bool) → T b → b ≡ true
true_from_T true t = refl
true_from_T false t = absurd t

Decides-int_le : (a b : ℤ) → Decides (int_le a b) (a ≤ℤ b)
Decides-int_le a b = (λ is. le_z_yes (subst T (sym is) tt), λ low. true_from_T (int_le a b) low.le)

Decides-int_lt : (a b : ℤ) → Decides (int_lt a b) (a <ℤ b)
Decides-int_lt a b = (λ is. lt_z_yes (subst T (sym is) tt), λ low. true_from_T (int_lt a b) low.lt)

Decides-nat_le : (a b : ℕ) → Decides (nat_le a b) (a ≤ b)
Decides-nat_le a b = (leb-true a b, le-leb a b)

pub Decides-is_on_axis : (count : ℕ) (x : ℤ) → Decides (is_on_axis count x) (IsOnAxis count x)
Decides-is_on_axis count x = let end = pos (65536 * count) in
    Decides-like _ (λ both. record { low = both.0; high = both.1 }) (λ on. (on.low, on.high))
    (Decides-and (int_le (pos 0) x) (int_lt x end) (Decides-int_le (pos 0) x) (Decides-int_lt x end))

pub Decides-is_up_to : (most : ℕ) (length : ℤ) → Decides (is_up_to most length) (IsUpTo most length)
Decides-is_up_to most length = let end = pos (most * 65536) in
    Decides-like _ (λ both. record { low = both.0; high = both.1 }) (λ is. (is.low, is.high))
    (Decides-and (int_le (pos 0) length) (int_le length end) (Decides-int_le (pos 0) length) (Decides-int_le length end))

pub Decides-is_unit_vector : (ux uz : ℤ) → Decides (is_unit_vector ux uz) (IsUnitVector ux uz)
Decides-is_unit_vector ux uz = let squared = square (unsigned_abs ux) + square (unsigned_abs uz) in
    Decides-like _ (λ both. record { long = both.0; short = both.1 }) (λ is. (is.long, is.short))
    (Decides-and (nat_le (2 ^ 32) (squared + 2 ^ 25)) (nat_le squared (2 ^ 32 + 2 ^ 25))
    (Decides-nat_le (2 ^ 32) (squared + 2 ^ 25)) (Decides-nat_le squared (2 ^ 32 + 2 ^ 25)))
