use Rattle.std.proofs.Common.{◌≤◌}
use Rattle.chunk_regions.proofs.SpanLemmas.{BeginBehind}
use Rattle.chunk_regions.proofs.labels.holding_from_east.Given as goal

abbrev pub invariant-loop-behind : goal.invariant-loop-behind
invariant-loop-behind l = record {
  within : l.behind ≤ l.end;
  past : BeginBehind l.spans l.row l.behind l.column;
}

abbrev pub decreases-loop-behind : goal.decreases-loop-behind
decreases-loop-behind l = l.behind
