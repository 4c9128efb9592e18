use Rattle.std.proofs.Common.{◌++◌, ℕ, List, take}
use Rattle.flat_posts.specs.Replies.{waypoints_of}
use Rattle.flat_posts.specs.declared.cells.FlatCell.{FlatCell}
use Rattle.flat_posts.specs.inner.Filling.{IsFilling}
use Rattle.flat_posts.proofs.turns.take_waypoints.Given as goal

abbrev pub invariant-loop-reply : goal.invariant-loop-reply
invariant-loop-reply l = (first : ℕ) (all old : List FlatCell) → IsFilling first all old l.fn.filling.ahead l.fn.filling.count l.fn.buffer
    → IsFilling first (all ++ waypoints_of (take l.reply-index l.replies)) old l.filling.ahead l.filling.count l.buffer
