use Rattle.obstruction_store.proofs.Reaching.{Touches-blocked}
use Rattle.obstruction_store.proofs.laws.what_blocks_touches.Goals as goal

pub returns : goal.returns
returns c = Touches-blocked
