use Rattle.std.proofs.Common.{◌≡◌, take}
use Rattle.std.specs.Prelude.{sum_by}
use Rattle.flat_posts.specs.Replies.{in_bits, replies_from, waypoint_count}
use Rattle.flat_posts.specs.inner.Filling.{IsFilling}
use Rattle.flat_posts.proofs.turns.write_replies.Given as goal

abbrev pub invariant-loop-caller : goal.invariant-loop-caller
invariant-loop-caller l = (l.waypoints ≡ in_bits 64 (sum_by (λ replies. sum_by waypoint_count replies) (take l.caller l.replies-items)))
    × IsFilling l.fn.first (replies_from 0 0 (take l.caller l.replies-items)) l.fn.buffer l.filling.ahead l.filling.count l.buffer
