use Rattle.std.proofs.Common.{IfSome}
use Rattle.goal_reach.specs.Rooms.{IsRoomIn}
use Rattle.goal_reach.proofs.rooms.room_in.Given as goal

abbrev pub invariant-halving : goal.invariant-halving
invariant-halving l = IfSome l.room (IsRoomIn l.goal)

abbrev pub decreases-halving : goal.decreases-halving
decreases-halving l = l.step
