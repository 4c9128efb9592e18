use Rattle.std.proofs.Common.{◌≡◌, ◌+◌, ◌≤◌, All, length, drop}
use Rattle.std.specs.Prelude.{vec_capacity}
use Rattle.std.specs.Vec.Iter.{into_iter_items, into_iter_len}
use Rattle.pathserve.specs.inner.Works.{HasPostedNone}
use Rattle.pathserve.proofs.BegunWorks.{HaveBegun}
use Rattle.pathserve.proofs.works.begin_all.Given as goal

abbrev pub invariant-loop-list : goal.invariant-loop-list
invariant-loop-list g l = record {
  begun : HaveBegun l.fn.callers l.lists (into_iter_items l.callers) (drop l.list-index l.lists) l.works.items;
  first : All HasPostedNone (into_iter_items l.callers);
  wide : length (into_iter_items l.callers) + l.list-index ≡ length l.lists;
  left : into_iter_len l.callers ≡ length (into_iter_items l.callers);
  count : length l.works.items ≡ l.list-index;
  room : length l.lists ≤ vec_capacity l.works;
}
