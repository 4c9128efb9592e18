use Rattle.request_lanes.proofs.Steps.{takes, sees}
use Rattle.request_lanes.proofs.queue.Queue.next.Goals as goal

pub pop_as-requires-clause-rule : goal.pop_as-requires-clause-rule
pop_as-requires-clause-rule g c = (takes _ _ c.requires.may, sees _ _ c.requires.may)
