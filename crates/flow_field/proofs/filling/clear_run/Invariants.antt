use Rattle.flow_field.specs.inner.Marks.{IsRunCleared}
use Rattle.flow_field.proofs.filling.clear_run.Given as goal

abbrev pub invariant-loop-at : goal.invariant-loop-at
invariant-loop-at l = IsRunCleared l.from l.at l.fn.marks.items l.marks.items
