use Rattle.std.proofs.Common.{◌≡◌}
use Rattle.landmarks.specs.Landmarks.{greatest_apart}
use Rattle.landmarks.proofs.tables.Landmarks.at_least.Given as goal

abbrev pub invariant-loop-table : goal.invariant-loop-table
invariant-loop-table l = l.most ≡ greatest_apart l.self l.fn.from l.fn.to l.table
