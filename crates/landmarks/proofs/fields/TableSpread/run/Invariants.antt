use Rattle.landmarks.specs.inner.Fields.{Spreads}
use Rattle.landmarks.proofs.fields.TableSpread.run.Given as goal

abbrev pub invariant-loop-done : goal.invariant-loop-done
invariant-loop-done l = Spreads l.fn.self.marks.items l.self.marks.items
