use Rattle.nav_types.proofs.Walking.{straight_steps_join as joins}
use Rattle.chunk_regions.proofs.laws.straight_steps_join.Goals as goal

pub returns : goal.returns
returns c = joins
