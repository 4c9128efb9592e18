use Rattle.std.proofs.Common.{◌≡◌, take}
use Rattle.std.specs.Prelude.{sum_by}
use Rattle.flat_posts.specs.Replies.{in_bits, replies_to, waypoint_count}
use Rattle.flat_posts.specs.inner.Filling.{IsFilling}
use Rattle.flat_posts.proofs.turns.write_replies_to.Given as goal

abbrev pub invariant-loop-place : goal.invariant-loop-place
invariant-loop-place l = (l.first ≡ in_bits 64 (sum_by waypoint_count (take l.place l.replies)))
    × IsFilling 0 (replies_to l.posts (take l.place l.replies)) l.fn.buffer l.filling.ahead l.filling.count l.buffer
