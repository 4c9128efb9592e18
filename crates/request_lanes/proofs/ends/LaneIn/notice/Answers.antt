use Rattle.request_lanes.proofs.Steps.{counts}
use Rattle.request_lanes.proofs.ends.LaneIn.notice.Goals as goal

pub another-requires-clause-rule : goal.another-requires-clause-rule
another-requires-clause-rule g c = counts _ _ c.self.invariant.1.may
