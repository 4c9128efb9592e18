use Rattle.nav_types.proofs.Regions.{one_area}
use Rattle.chunk_regions.proofs.laws.one_area.Goals as goal

pub returns : goal.returns
returns c = one_area
