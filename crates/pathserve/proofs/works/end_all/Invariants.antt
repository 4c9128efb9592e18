-- The callers so far have ended, and the driver is as it was. Those that are left stand in the places of their numbers.
use Rattle.std.proofs.Common.{◌≡◌, ◌+◌, ◌≤◌, length}
use Rattle.std.specs.List.{AllByRecursion}
use Rattle.std.specs.Prelude.{vec_capacity}
use Rattle.std.specs.Vec.Iter.{into_iter_items, into_iter_len}
use Rattle.pathserve.proofs.EndedCallers.{HaveEnded, IsPlaced}
use Rattle.pathserve.proofs.works.end_all.Given as goal

abbrev pub invariant-loop-caller : goal.invariant-loop-caller
invariant-loop-caller g l = record {
  driver : l.driver ≡ l.fn.driver;
  placed : AllByRecursion (IsPlaced l.fn.driver.callers) (into_iter_items l.caller-iterator);
  ended : HaveEnded l.fn.driver.sent l.fn.callers (into_iter_items l.caller-iterator) l.ended.items;
  left : into_iter_len l.caller-iterator ≡ length (into_iter_items l.caller-iterator);
  room : length l.ended.items + length (into_iter_items l.caller-iterator) ≤ vec_capacity l.ended;
}
