use Rattle.std.proofs.Common.{rules}
use Rattle.jump_search.specs.inner.Paged.{page_place}
use Rattle.jump_search.proofs.pages.place.Goals as goal

pub returns-clause-place : goal.returns-clause-place
unfolding page_place
returns-clause-place c = search rules
