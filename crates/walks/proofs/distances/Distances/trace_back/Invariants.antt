use Rattle.std.proofs.Common.{◌++◌, List, None}
use Rattle.nav_types.specs.declared.directions.Dir.{Dir}
use Rattle.walks.specs.Chosen.{IsChosenBack}
use Rattle.walks.specs.inner.Tables.{entry, IsReachedCell}
use Rattle.walks.proofs.distances.Distances.trace_back.Given as goal

-- the cell is reached, and what is chosen into it makes up the rest of what is chosen into the end
abbrev pub invariant-steps : goal.invariant-steps
invariant-steps g l =
    let passes = g.V.View.passes l.view l.class in
    let size = g.V.View.extent l.view in
    IsReachedCell size l.self.costs.items l.cell
    × ((rest : List Dir) → IsChosenBack passes l.self.start l.next rest l.cell → IsChosenBack passes l.self.start None (l.back ++ rest) l.fn.end)

abbrev pub decreases-steps : goal.decreases-steps
decreases-steps g l = entry (g.V.View.extent l.view) l.self.costs.items l.cell
