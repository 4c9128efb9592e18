use Rattle.std.proofs.Common.{◌≡◌, ◌++◌, map, drop}
use Rattle.answer_text.specs.Answers.{waypoint_text}
use Rattle.answer_text.specs.Writing.{GrewFrom}
use Rattle.answer_text.specs.inner.Spacing.{spaced}
use Rattle.answer_text.proofs.lines.write_waypoints.Given as goal

-- what is written, with the waypoints that are left, is the whole
abbrev pub invariant-loop-waypoint : goal.invariant-loop-waypoint
invariant-loop-waypoint l = record {
  left : l.text ++ spaced (map waypoint_text (drop l.waypoint-index l.waypoints)) ≡ l.initial.text ++ spaced (map waypoint_text l.waypoints);
  grew : GrewFrom l.initial.text l.text;
}
