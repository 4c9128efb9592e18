use Rattle.std.proofs.Common.{Bool}
use Rattle.nav_types.specs.declared.cells.Cell.{Cell}
use Rattle.flow_field.specs.Flows.{IsFieldOf}
use Rattle.flat_ways.specs.Steps.{HasStep}
use Rattle.flat_ways.specs.inner.Told.{AreToldUpTo}
use Rattle.flat_ways.proofs.steps.write_steps.Given as goal

abbrev pub invariant-loop-place : goal.invariant-loop-place
invariant-loop-place l = (passes hit : Cell → Bool) (start : Cell) → IsFieldOf passes hit start l.field
    → AreToldUpTo (HasStep passes hit start) l.size l.place l.fn.steps l.steps
