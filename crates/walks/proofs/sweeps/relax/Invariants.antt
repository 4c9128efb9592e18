use Rattle.std.proofs.Common.{ℕ, ◌<◌, List, get_or}
use Rattle.nav_types.specs.declared.directions.Dir.TheVariants.{N}
use Rattle.walks.specs.Chosen.{preference}
use Rattle.walks.specs.inner.Tables.{IsSettledAlong, Lowers}
use Rattle.walks.proofs.sweeps.relax.Given as goal

abbrev pub invariant-loop-dir : goal.invariant-loop-dir
invariant-loop-dir g l =
    let passes = g.V.View.passes l.view l.class in
    let size = g.V.View.extent l.view in
    Lowers passes size (λ (table : List ℕ). (k : ℕ) → k < l.dir-index → IsSettledAlong passes size l.cell (get_or preference k N) table) l.initial.costs.items l.costs.items l.fell
