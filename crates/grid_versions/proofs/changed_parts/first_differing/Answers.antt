use Rattle.std.proofs.Common.{arith}
use Rattle.grid_versions.proofs.changed_parts.first_differing.Goals as goal

pub loop-i-init : goal.loop-i-init
loop-i-init c i low below = absurd (omega (arith, low, below))
