use Rattle.nav_types.proofs.Regions.{one_region}
use Rattle.chunk_regions.proofs.laws.one_region.Goals as goal

pub returns : goal.returns
returns c = one_region
