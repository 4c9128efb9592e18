use Rattle.std.proofs.Common.{ℕ, ◌<◌, get_or}
use Rattle.nav_types.specs.declared.directions.Dir.TheVariants.{N}
use Rattle.walks.specs.Chosen.{Enters, preference}
use Rattle.walks.proofs.distances.Distances.preferred.Given as goal

abbrev pub invariant-loop-dir : goal.invariant-loop-dir
invariant-loop-dir g l =
    (k : ℕ) → k < l.dir-index → Enters (g.V.View.passes l.view l.class) l.self.start l.cell (get_or preference k N) → ⊥
