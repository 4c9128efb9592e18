use Rattle.answer_laws.proofs.Numbers.{region_of, area_of}
use Rattle.answer_laws.proofs.walking.cells_are_numbered.Goals as goal

pub returns-clause-regions : goal.returns-clause-regions
returns-clause-regions c = region_of

pub returns-clause-areas : goal.returns-clause-areas
returns-clause-areas c = area_of
