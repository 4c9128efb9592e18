use Rattle.answer_text.proofs.Waypoints.{waypoint_is_canonical}
use Rattle.answer_text.proofs.laws.waypoint_is_canonical.Goals as goal

pub returns : goal.returns
returns c = waypoint_is_canonical
