use Rattle.std.proofs.Common.{◌≡◌, ◌++◌, take, drop}
use Rattle.std.specs.Vec.Iter.{into_iter_items}
use Rattle.turn_core.specs.inner.ReplyLists.{list_filled, answers_past_list}
use Rattle.turn_core.proofs.reply_lists.list_filled.Given as goal

abbrev pub invariant-loop-reply : goal.invariant-loop-reply
invariant-loop-reply l = record {
  made : l.reply-items ≡ list_filled (take l.reply-index l.fn.list) (into_iter_items l.fn.answers) ++ drop l.reply-index l.fn.list;
  left : into_iter_items l.answers ≡ answers_past_list (take l.reply-index l.fn.list) (into_iter_items l.fn.answers);
}
