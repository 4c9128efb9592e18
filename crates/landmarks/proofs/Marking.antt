-- Marks that change.
use Rattle.std.proofs.Common.{ℕ, List, arith}
use Rattle.landmarks.specs.inner.Fields.{Spreads, HasRoom}

pub room_after : (a b : List ℕ) → HasRoom a → Spreads a b → HasRoom b
room_after a b room spreads = record { few = omega (arith, room.few, spreads.long); most = spreads.most room.most }
