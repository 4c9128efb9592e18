use Rattle.request_lanes.proofs.Steps.{meets}
use Rattle.request_lanes.proofs.ends.LaneOut.finish.Goals as goal

pub absorb-requires-clause-rule : goal.absorb-requires-clause-rule
absorb-requires-clause-rule g c = meets _ _ _ _ c.ended-inside.invariant.1.may c.self.invariant.1.may
