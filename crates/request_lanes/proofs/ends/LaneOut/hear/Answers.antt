use Rattle.request_lanes.proofs.Steps.{hears}
use Rattle.request_lanes.proofs.ends.LaneOut.hear.Goals as goal

pub absorb-requires-clause-rule : goal.absorb-requires-clause-rule
absorb-requires-clause-rule g c = hears _ _ _ _
