use Rattle.std.proofs.Common.{◌≡◌, ◌+◌, ◌≤◌, length}
use Rattle.std.specs.Prelude.{vec_capacity}
use Rattle.std.specs.Vec.Iter.{into_iter_items, into_iter_len}
use Rattle.pathserve.proofs.BegunWorks.{HaveEnded}
use Rattle.pathserve.proofs.works.join_all.Given as goal

abbrev pub invariant-loop-begun : goal.invariant-loop-begun
invariant-loop-begun g l = record {
  ended : HaveEnded l.fn.works.items (into_iter_items l.begun-iterator) l.callers.items;
  left : into_iter_len l.begun-iterator ≡ length (into_iter_items l.begun-iterator);
  room : length l.callers.items + length (into_iter_items l.begun-iterator) ≤ vec_capacity l.callers;
}
