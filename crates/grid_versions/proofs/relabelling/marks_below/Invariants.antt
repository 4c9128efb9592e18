use Rattle.std.proofs.Common.{◌≡◌, ◌*◌, ◌≤◌}
use Rattle.std.specs.List.{count_by, sum_by, range_with_len}
use Rattle.lane_rows.specs.Rows.{has_class}
use Rattle.grid_versions.proofs.relabelling.marks_below.Given as goal

abbrev pub invariant-loop-number : goal.invariant-loop-number
invariant-loop-number l = record {
  sum : l.count ≡ sum_by (λ k. count_by (has_class k) l.bits) (range_with_len 0 l.number);
  few : l.count ≤ 484 * l.number;
}
