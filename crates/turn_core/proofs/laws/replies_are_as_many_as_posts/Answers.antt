use Rattle.turn_core.proofs.ReplyCounts.{as_many}
use Rattle.turn_core.proofs.laws.replies_are_as_many_as_posts.Goals as goal

pub returns : goal.returns
returns c = as_many
