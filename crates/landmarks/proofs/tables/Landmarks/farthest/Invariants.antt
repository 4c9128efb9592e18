use Rattle.std.proofs.Common.{◌<◌}
use Rattle.landmarks.specs.inner.Fields.{spots}
use Rattle.landmarks.proofs.tables.Landmarks.farthest.Given as goal

abbrev pub invariant-loop-nth : goal.invariant-loop-nth
invariant-loop-nth l = l.best < spots l.self.size
