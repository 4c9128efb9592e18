use Rattle.landmarks.specs.inner.Fields.{Spreads}
use Rattle.landmarks.proofs.marks.clear.Given as goal

abbrev pub invariant-loop-at : goal.invariant-loop-at
invariant-loop-at l = Spreads l.fn.marks.items l.marks.items
