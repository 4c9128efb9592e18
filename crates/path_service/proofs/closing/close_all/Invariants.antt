use Rattle.std.proofs.Common.{◌≡◌, ◌+◌, ◌≤◌, length}
use Rattle.std.specs.Prelude.{vec_capacity}
use Rattle.std.specs.Vec.Iter.{into_iter_items, into_iter_len}
use Rattle.path_service.proofs.ClosedLanes.{Closes}
use Rattle.path_service.proofs.closing.close_all.Given as goal

abbrev pub invariant-loop-channel : goal.invariant-loop-channel
invariant-loop-channel g l = record {
  closes : Closes l.fn.channels.items l.fn.ended (into_iter_items l.channel-iterator) (into_iter_items l.callers) l.closed.items;
  room : length l.closed.items + length (into_iter_items l.channel-iterator) ≤ vec_capacity l.closed;
  channels : into_iter_len l.channel-iterator ≡ length (into_iter_items l.channel-iterator);
  callers : into_iter_len l.callers ≡ length (into_iter_items l.callers);
}
