use Rattle.std.proofs.Common.{Bool}
use Rattle.nav_types.specs.declared.cells.Cell.{Cell}
use Rattle.flow_field.specs.Flows.{IsFieldOf}
use Rattle.flat_ways.specs.Steps.{HasDistance}
use Rattle.flat_ways.specs.inner.Told.{AreToldUpTo}
use Rattle.flat_ways.proofs.steps.write_distances.Given as goal

abbrev pub invariant-loop-place : goal.invariant-loop-place
invariant-loop-place l = (passes hit : Cell → Bool) (start : Cell) → IsFieldOf passes hit start l.field
    → AreToldUpTo (HasDistance passes hit start) l.size l.place l.fn.distances l.distances
