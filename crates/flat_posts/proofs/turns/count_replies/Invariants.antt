use Rattle.std.proofs.Common.{◌≡◌, length, take}
use Rattle.std.specs.Prelude.{sum_by}
use Rattle.flat_posts.specs.Replies.{in_bits}
use Rattle.flat_posts.proofs.turns.count_replies.Given as goal

abbrev pub invariant-loop-replies : goal.invariant-loop-replies
invariant-loop-replies l = l.count ≡ in_bits 64 (sum_by length (take l.replies-index l.lists))
