use Rattle.std.proofs.Common.{arith}
use Rattle.grid_versions.proofs.changed_parts.last_differing.Goals as goal

pub columns-init : goal.columns-init
columns-init c = record {
  low = c.requires.high;
  high = omega arith;
  same = λ i low below. absurd (omega (arith, low, below));
}
