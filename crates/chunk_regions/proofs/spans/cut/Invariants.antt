use Rattle.chunk_regions.specs.inner.Spans.{IsCutTo, bits_at}
use Rattle.chunk_regions.proofs.spans.cut.Given as goal

abbrev pub invariant-loop-row : goal.invariant-loop-row
invariant-loop-row l = IsCutTo (bits_at l.bits) l.starts.items l.spans.items l.row
