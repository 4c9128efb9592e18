use Rattle.flat_posts.proofs.OneMap.{one_map-IsMapOf}
use Rattle.flat_posts.proofs.laws.one_map.Goals as goal

pub returns : goal.returns
returns c = one_map-IsMapOf
