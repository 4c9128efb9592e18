use Rattle.std.proofs.Common.{◌≡◌}
use Rattle.landmarks.specs.Spans.{greatest_outside}
use Rattle.landmarks.proofs.tables.Landmarks.at_least_to.Given as goal

abbrev pub invariant-loop-table : goal.invariant-loop-table
invariant-loop-table l = l.most ≡ greatest_outside l.self l.span l.fn.from l.table
