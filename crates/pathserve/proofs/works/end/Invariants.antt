-- Until no reply is left the caller was told of as many as were sent to it. Each reply that it collects has a place below
-- 2^64.
use Rattle.std.proofs.Common.{◌-◌, length}
use Rattle.posts.specs.Callers.{list_of}
use Rattle.pathserve.proofs.EndedCallers.{IsCollecting}
use Rattle.pathserve.proofs.works.end.Given as goal

abbrev pub invariant-collecting : goal.invariant-collecting
invariant-collecting g l = IsCollecting (list_of l.driver.sent l.fn.caller.id.number) l.fn.caller l.caller

abbrev pub decreases-collecting : goal.decreases-collecting
decreases-collecting g l = 18446744073709551616 - length l.caller.collected
