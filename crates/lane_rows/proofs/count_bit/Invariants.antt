use Rattle.std.proofs.Common.{◌≡◌, ◌+◌, ◌-◌, drop, length}
use Rattle.std.specs.List.{count_by}
use Rattle.lane_rows.specs.Rows.{has_class}
use Rattle.lane_rows.proofs.count_bit.Given as goal

-- what is counted, and what is left to count
abbrev pub invariant-sweep : goal.invariant-sweep
invariant-sweep l = l.count + count_by (has_class l.class) (drop l.start l.row) ≡ count_by (has_class l.class) l.row

abbrev pub decreases-sweep : goal.decreases-sweep
decreases-sweep l = length l.row - l.start
