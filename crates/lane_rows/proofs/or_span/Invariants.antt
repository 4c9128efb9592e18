use Rattle.std.proofs.Common.{◌≡◌, ◌≤◌, ◌-◌}
use Rattle.lane_rows.specs.Rows.{with_span}
use Rattle.lane_rows.proofs.or_span.Given as goal

-- the span is done up to `start`
abbrev pub invariant-sweep : goal.invariant-sweep
invariant-sweep l = record {
  low : l.from ≤ l.start;
  high : l.start ≤ l.to;
  done : l.row ≡ with_span l.from l.start l.mask l.fn.row;
}

abbrev pub decreases-sweep : goal.decreases-sweep
decreases-sweep l = l.to - l.start
