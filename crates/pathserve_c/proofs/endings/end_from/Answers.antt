use Rattle.std.proofs.Common.{sym, ap}
use Rattle.pathserve_c.specs.Endings.{end_to}
use Rattle.pathserve_c.proofs.endings.end_from.Goals as goal

pub returns-in-Goal : goal.returns-in-Goal
returns-in-Goal c = (c.made_reachable.result, (c.made_reachable.ensures.targets, sym (ap end_to c.in-Goal.is)))

pub returns-in-Near : goal.returns-in-Near
returns-in-Near c = (c.made_reachable.result, (c.made_reachable.ensures.targets, sym (ap end_to c.in-Near.is)))
