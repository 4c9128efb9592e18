use Rattle.nav_types.specs.DirSets.{spot_of}
use Rattle.nav_types.proofs.DirSetLemmas.{spot_set, spot_kept, spots_apart}
use Rattle.std.proofs.Common.{◌∙◌, arith}
use Rattle.nav_types.proofs.directions.DirSet.with.Goals as goal

pub returns-clause-added : goal.returns-clause-added
returns-clause-added c =
    let few = c.spot_of-spot.ensures.few in
    spot_set c.args.self.bits c.spot_of-spot.result (spot_of c.args.dir) c.spot_of-spot.ensures.spot (omega (arith, few))

pub returns-clause-others : goal.returns-clause-others
returns-clause-others c = λ other apart.
    let few = c.spot_of-spot.ensures.few in
    spot_kept c.args.self.bits c.spot_of-spot.result (spot_of other) (omega (arith, few))
    (λ same. spots_apart other c.args.dir apart (same ∙ c.spot_of-spot.ensures.spot))
