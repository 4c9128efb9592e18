use Rattle.std.proofs.Common.{◌≡◌, ◌+◌, ◌++◌, ℕ, List, take}
use Rattle.std.specs.Prelude.{sum_by}
use Rattle.flat_posts.specs.Replies.{caller_replies, in_bits, waypoint_count}
use Rattle.flat_posts.specs.declared.replied.FlatReply.{FlatReply}
use Rattle.flat_posts.specs.inner.Filling.{IsFilling}
use Rattle.flat_posts.proofs.turns.take_replies.Given as goal

abbrev pub invariant-loop-post : goal.invariant-loop-post
invariant-loop-post l = (place before : ℕ) (all old : List FlatReply) → l.fn.first ≡ in_bits 64 before
    → IsFilling place all old l.fn.filling.ahead l.fn.filling.count l.fn.buffer
    → (l.next ≡ in_bits 64 (before + sum_by waypoint_count (take l.post l.replies)))
    × IsFilling place (all ++ caller_replies l.caller 0 before (take l.post l.replies)) old l.filling.ahead l.filling.count l.buffer
