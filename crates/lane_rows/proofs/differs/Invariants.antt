use Rattle.std.proofs.Common.{◌-◌, length}
use Rattle.lane_rows.proofs.DifferLemmas.{Seen}
use Rattle.lane_rows.proofs.differs.Given as goal

abbrev pub invariant-sweep : goal.invariant-sweep
invariant-sweep l = Seen l.start l.bits l.a l.b

abbrev pub decreases-sweep : goal.decreases-sweep
decreases-sweep l = length l.a - l.start
