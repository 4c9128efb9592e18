use Rattle.nav_types.specs.Cells.{cell_at}
use Rattle.flow_field.specs.inner.Marks.{IsSpreading, NoStep}
use Rattle.flow_field.specs.inner.Spreads.{WaitsIn, FoundBefore}
use Rattle.flow_field.proofs.spreading.FieldSpread.find_targets.Given as goal

abbrev pub invariant-loop-j : goal.invariant-loop-j
invariant-loop-j g l =
    let size = g.M.View.extent l.map in
    IsSpreading (g.M.View.passes l.map l.class) (g.A.Aim.hit l.aim size) l.fn.start size (FoundBefore l.bounds (cell_at l.bounds.i0 l.j)) NoStep l.self.marks.items (WaitsIn l.self)

abbrev pub invariant-loop-i : goal.invariant-loop-i
invariant-loop-i g l =
    let size = g.M.View.extent l.map in
    IsSpreading (g.M.View.passes l.map l.class) (g.A.Aim.hit l.aim size) l.fn.start size (FoundBefore l.bounds (cell_at l.i l.j)) NoStep l.self.marks.items (WaitsIn l.self)
