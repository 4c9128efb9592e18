use Rattle.std.proofs.Common.{ℕ, ◌<◌, ◌-◌, List, cond}
use Rattle.nav_types.specs.Places.{cell_of}
use Rattle.walks.specs.inner.Tables.{IsSettledAt, Lowers}
use Rattle.walks.proofs.sweeps.sweep.Given as goal

abbrev pub invariant-loop-passed : goal.invariant-loop-passed
invariant-loop-passed g l =
    let passes = g.V.View.passes l.view l.class in
    let size = g.V.View.extent l.view in
    Lowers passes size (λ (table : List ℕ). (k : ℕ) → k < l.passed → IsSettledAt passes size (cell_of size (cond l.forward k (l.count - 1 - k))) table) l.initial.costs.items l.costs.items l.fell
