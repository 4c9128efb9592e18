use Rattle.std.proofs.Common.{◌≡◌, ◌++◌, take, drop}
use Rattle.std.specs.Vec.Iter.{into_iter_items}
use Rattle.turn_core.specs.inner.Sweeps.{left}
use Rattle.turn_core.specs.inner.ReplyLists.{lists_filled, answers_past_list}
use Rattle.turn_core.proofs.reply_lists.lists_filled.Given as goal

abbrev pub invariant-loop-list : goal.invariant-loop-list
invariant-loop-list l = record {
  made : l.list-items ≡ lists_filled (take l.list-index l.fn.lists.items) l.fn.answers ++ drop l.list-index l.fn.lists.items;
  left : into_iter_items l.answers ≡ left answers_past_list (take l.list-index l.fn.lists.items) l.fn.answers;
}
