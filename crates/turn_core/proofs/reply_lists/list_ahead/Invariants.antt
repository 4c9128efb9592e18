use Rattle.std.proofs.Common.{◌≡◌, take}
use Rattle.std.specs.Vec.Iter.{into_iter_items}
use Rattle.turn_core.specs.inner.ReplyLists.{list_ahead, edits_past_list}
use Rattle.turn_core.proofs.reply_lists.list_ahead.Given as goal

abbrev pub invariant-loop-post : goal.invariant-loop-post
invariant-loop-post l = record {
  made : l.list.items ≡ list_ahead (take l.post-index l.posts) (into_iter_items l.fn.edits);
  left : into_iter_items l.edits ≡ edits_past_list (take l.post-index l.posts) (into_iter_items l.fn.edits);
}
