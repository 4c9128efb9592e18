use Rattle.std.proofs.Common.{◌-◌, ◌+◌}
use Rattle.flow_field.specs.inner.Marks.{IsCleared}
use Rattle.flow_field.proofs.filling.clear_row.Given as goal

abbrev pub invariant-runs : goal.invariant-runs
invariant-runs g l = IsCleared (g.M.View.passes l.map l.class) (g.M.View.extent l.map) (l.row + l.i) l.marks.items

abbrev pub decreases-runs : goal.decreases-runs
decreases-runs g l = l.size.w - l.i
