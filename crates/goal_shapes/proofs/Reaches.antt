-- Which columns and rows a box has.
use Rattle.std.proofs.Common.{◌*◌, ◌/◌, ◌≤◌, ◌<◌, ℕ, ℤ, pos, negsuc, Bool, ◌&&◌, ◌↔◌, arith, leb-true, le-leb}
use Rattle.std.specs.Prelude.{unsigned_abs, IsTrue, nat_le}
use Rattle.std.proofs.lemmas.Bool.{and_parts, and_from}
use Rattle.std.proofs.lemmas.Int.{ints}
use Rattle.std.proofs.Math.Nat.{le-div_iff_mul-le}
use Rattle.fixed_point.specs.Plane.{from_centre, IsOnAxis}

-- two tests at once
pub both : {P Q : Type 0} (a b : Bool) → (IsTrue a ↔ P) → (IsTrue b ↔ Q) → IsTrue (a && b) ↔ (P × Q)
both a b first second =
    ((λ t. let parts = and_parts a b t in (first.0 parts.0, second.0 parts.1)), (λ h. and_from a b (first.1 h.0) (second.1 h.1)))

-- two facts that one fact decides
pub alike : {P Q R : Type 0} → (P ↔ Q) → (R ↔ Q) → P ↔ R
alike first second = ((λ p. second.1 (first.0 p)), (λ r. first.1 (second.0 r)))

-- the middle of the column that holds a coordinate lies no further than half a navcell from it
pub column_is_near : (count reach : ℕ) (x : ℤ) → IsOnAxis count x → 32768 ≤ reach
    → ((i : ℕ) → i < count → unsigned_abs (from_centre i x) ≤ reach → ⊥) → ⊥
column_is_near count reach (pos m) on far none = none (m / 65536) (omega (arith, ints)) (omega (arith, ints))
column_is_near count reach (negsuc m) on far none = absurd (omega (arith, ints))

-- a product is at most an extent where the factor is at most its quotient
pub within_quotient : (p n extent : ℕ) → 0 < n → IsTrue (nat_le (p * n) extent) ↔ (p ≤ extent / n)
within_quotient p n extent positive = let quotient = le-div_iff_mul-le {k = n} {x = p} {y = extent} positive in
    ((λ t. quotient.1 (leb-true (p * n) extent t)), (λ h. le-leb (p * n) extent (quotient.0 h)))
