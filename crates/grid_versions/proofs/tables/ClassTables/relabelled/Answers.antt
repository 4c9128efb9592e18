use Rattle.std.proofs.Common.{subst}
use Rattle.grid_versions.specs.inner.Tables.{Tables, HasTotals}
use Rattle.grid_versions.proofs.ChangeLemmas.{totals_stay}
use Rattle.grid_versions.proofs.tables.ClassTables.relabelled.Goals as goal

pub invariant_of-result : goal.invariant_of-result
invariant_of-result c =
    totals_stay c.args.self.now c.args.labels c.args.east c.args.north _ c.self.inside.regions c.self.inside.edges
    (subst (λ (t : Tables). HasTotals t c.self.inside.regions c.self.inside.edges) c.self.view_is c.self.invariant)
    c.requires.counts c.requires.east c.requires.north
