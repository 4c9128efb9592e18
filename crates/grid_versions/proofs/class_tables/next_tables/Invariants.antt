use Rattle.std.proofs.Common.{◌+◌, ◌≤◌}
use Rattle.std.specs.List.{count_by, sum_by, range_with_len}
use Rattle.lane_rows.specs.Rows.{has_class}
use Rattle.grid_versions.specs.Passing.{passable_at}
use Rattle.grid_versions.specs.inner.Tallying.{AreTablesOf}
use Rattle.grid_versions.proofs.class_tables.next_tables.Given as goal

-- the classes below `number` have their tables
abbrev pub invariant-loop-number : goal.invariant-loop-number
invariant-loop-number g l = record {
  tables : AreTablesOf l.number (passable_at l.site.map.now l.site.shapes.now) l.site.map.now.size l.all;
  ticked : l.ticks ≤ l.initial.ticks + sum_by (λ k. count_by (has_class k) l.changed) (range_with_len 0 l.number);
}
