use Rattle.std.proofs.Common.{◌≡◌, ◌+◌, ℕ, take}
use Rattle.std.specs.Prelude.{sum_by}
use Rattle.flat_posts.specs.Replies.{in_bits, waypoint_count}
use Rattle.flat_posts.proofs.turns.with_waypoints.Given as goal

abbrev pub invariant-loop-reply : goal.invariant-loop-reply
invariant-loop-reply l = (all : ℕ) → l.fn.before ≡ in_bits 64 all → l.count ≡ in_bits 64 (all + sum_by waypoint_count (take l.reply-index l.replies))
