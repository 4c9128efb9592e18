use Rattle.std.proofs.Common.{sum}
use Rattle.nav_types.specs.declared.cells.Cell.{Cell}
use Rattle.walks.specs.inner.Tables.{IsSoundTable}
use Rattle.walks.proofs.sweeps.settle.Given as goal

abbrev pub invariant-sweeps : goal.invariant-sweeps
invariant-sweeps g l =
    let passes = g.V.View.passes l.view l.class in
    let size = g.V.View.extent l.view in
    (start : Cell) → IsSoundTable passes start size l.initial.costs.items → IsSoundTable passes start size l.costs.items

abbrev pub decreases-sweeps : goal.decreases-sweeps
decreases-sweeps g l = sum l.costs.items
