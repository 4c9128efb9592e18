use Rattle.std.proofs.Common.{◌≡◌, [], replicate}
use Rattle.posts.proofs.posts.empty_lists.Given as goal

abbrev pub invariant-loop-caller : goal.invariant-loop-caller
invariant-loop-caller l = l.posted.items ≡ replicate l._caller []
