use Rattle.chunk_regions.specs.inner.Spans.{AreBitsIn}
use Rattle.chunk_regions.proofs.bits.are_inside.Given as goal

abbrev pub invariant-loop-row : goal.invariant-loop-row
invariant-loop-row l = AreBitsIn l.width l.height l.from l.row l.bits
