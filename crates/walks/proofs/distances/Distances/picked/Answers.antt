use Rattle.std.proofs.Common.{inr}
use Rattle.walks.proofs.distances.Distances.picked.Goals as goal

pub returns-in-None-clause-picked : goal.returns-in-None-clause-picked
returns-in-None-clause-picked g c = inr (c.in-None.ensures.none, c.preferred.ensures.first)
