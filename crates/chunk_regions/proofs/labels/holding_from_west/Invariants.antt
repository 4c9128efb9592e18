use Rattle.chunk_regions.proofs.SpanLemmas.{EndBefore}
use Rattle.chunk_regions.proofs.labels.holding_from_west.Given as goal

abbrev pub invariant-loop-at : goal.invariant-loop-at
invariant-loop-at l = EndBefore l.spans l.row l.at l.column
