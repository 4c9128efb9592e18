use Rattle.std.proofs.Common.{rules}
use Rattle.jump_search.specs.inner.Paged.{spot_of}
use Rattle.jump_search.proofs.pages.spot.Goals as goal

pub returns-clause-spot : goal.returns-clause-spot
unfolding spot_of
returns-clause-spot c = search rules
