use Rattle.chunk_regions.specs.inner.Joining.{AreNumbers}
use Rattle.chunk_regions.proofs.label_spans.number_regions.Given as goal

abbrev pub invariant-loop-place : goal.invariant-loop-place
invariant-loop-place l = AreNumbers l.firsts l.fn.links l.links l.roots.items l.place
