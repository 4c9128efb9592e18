use Rattle.std.proofs.Common.{◌≡◌, take}
use Rattle.flat_posts.specs.TurnPosts.{turn_of}
use Rattle.flat_posts.proofs.turn_posts.turn_of.Given as goal

abbrev pub invariant-loop-entry : goal.invariant-loop-entry
invariant-loop-entry l = l.lists.items ≡ turn_of l.callers (take l.entry-index l.entries)
