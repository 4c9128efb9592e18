-- A value of which something holds.
use Rattle.std.proofs.Common.{◌≡◌, Option, Some, None, IsSomeAnd, refl}

pub value_of : {A : Type 0} (P : A → Type 0) (o : Option A) → IsSomeAnd o P → (a : A) × ((o ≡ Some a) × P a)
value_of P None holds = absurd holds
value_of P (Some a) holds = (a, (refl, holds))
