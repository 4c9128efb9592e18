use Rattle.chunk_regions.proofs.SpanLemmas.{EndBefore}
use Rattle.chunk_regions.proofs.labels.stretch_in_row.Given as goal

abbrev pub invariant-loop-at : goal.invariant-loop-at
invariant-loop-at l = EndBefore l.spans l.row l.at l.column
