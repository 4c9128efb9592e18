use Rattle.std.proofs.Common.{◌≡◌, take}
use Rattle.std.specs.Vec.Iter.{into_iter_items}
use Rattle.turn_core.specs.inner.Sweeps.{left}
use Rattle.turn_core.specs.inner.ReplyLists.{lists_ahead, edits_past_list}
use Rattle.turn_core.proofs.reply_lists.lists_ahead.Given as goal

abbrev pub invariant-loop-posts : goal.invariant-loop-posts
invariant-loop-posts l = record {
  made : l.lists.items ≡ lists_ahead (take l.posts-index l.turn) (l.fn.edits);
  left : into_iter_items l.edits ≡ left edits_past_list (take l.posts-index l.turn) (l.fn.edits);
}
