use Rattle.std.proofs.Common.{◌≡◌, take}
use Rattle.std.specs.Prelude.{sum_by}
use Rattle.flat_posts.specs.Replies.{in_bits, waypoint_count}
use Rattle.flat_posts.proofs.turns.count_waypoints.Given as goal

abbrev pub invariant-loop-replies : goal.invariant-loop-replies
invariant-loop-replies l = l.count ≡ in_bits 64 (sum_by (λ replies. sum_by waypoint_count replies) (take l.replies-index l.lists))
