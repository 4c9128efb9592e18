use Rattle.flow_field.specs.inner.Spreads.{weight, KeepsSpreading}
use Rattle.flow_field.proofs.spreading.FieldSpread.run.Given as goal

abbrev pub invariant-places : goal.invariant-places
invariant-places l = KeepsSpreading l.width l.fn.self l.self

abbrev pub decreases-places : goal.decreases-places
decreases-places l = weight l.self
