use Rattle.std.proofs.Common.{take}
use Rattle.flat_posts.specs.Replies.{turn_waypoints}
use Rattle.flat_posts.specs.inner.Filling.{IsFilling}
use Rattle.flat_posts.proofs.turns.write_waypoints.Given as goal

abbrev pub invariant-loop-replies : goal.invariant-loop-replies
invariant-loop-replies l = IsFilling l.fn.first (turn_waypoints (take l.replies-index l.replies-items)) l.fn.buffer l.filling.ahead l.filling.count l.buffer
