use Rattle.std.proofs.Common.{ℕ, ◌==◌, ap}
use Rattle.std.proofs.lemmas.Nat.Bits.{bit_at-zero}
use Rattle.nav_types.specs.DirSets.{spot_of}
use Rattle.nav_types.proofs.directions.DirSet.new.Goals as goal

pub returns : goal.returns
returns c = λ dir. ap (λ (n : ℕ). n == 1) (bit_at-zero (spot_of dir))
