use Rattle.landmarks.specs.inner.Fields.{IsWritten}
use Rattle.landmarks.proofs.tables.write_table.Given as goal

abbrev pub invariant-loop-at : goal.invariant-loop-at
invariant-loop-at l = IsWritten l.table l.at l.marks l.fn.numbers.items l.numbers.items
