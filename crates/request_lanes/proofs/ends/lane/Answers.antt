use Rattle.std.proofs.Common.{rules}
use Rattle.request_lanes.proofs.Steps.{begins, parts}
use Rattle.request_lanes.proofs.ends.lane.Goals as goal

pub with_rule-requires : goal.with_rule-requires
with_rule-requires g c = begins

pub another-other-requires-clause-rule : goal.another-other-requires-clause-rule
another-other-requires-clause-rule g c = parts _ _ (search rules) (search rules)
