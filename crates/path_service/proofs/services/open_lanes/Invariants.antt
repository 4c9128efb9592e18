use Rattle.std.proofs.Common.{◌≡◌, ◌≤◌, length}
use Rattle.std.specs.Prelude.{vec_capacity}
use Rattle.path_service.proofs.NewDrivers.{AreOpen}
use Rattle.path_service.proofs.services.open_lanes.Given as goal

abbrev pub invariant-loop-number : goal.invariant-loop-number
invariant-loop-number g l = record {
  are : AreOpen l.number l.channels.items l.callers.items;
  count : length l.callers.items ≡ l.number;
  ports_room : l.count ≤ vec_capacity l.channels;
  callers_room : l.count ≤ vec_capacity l.callers;
}
