use Rattle.nav_types.specs.Cells.{cell_at}
use Rattle.flow_field.specs.inner.Marks.{spot_of, IsCleared}
use Rattle.flow_field.proofs.filling.free_marks.Given as goal

abbrev pub invariant-loop-j : goal.invariant-loop-j
invariant-loop-j g l =
    let size = g.M.View.extent l.map in
    IsCleared (g.M.View.passes l.map l.class) size (spot_of size (cell_at 0 l.j)) l.marks.items
