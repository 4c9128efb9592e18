use Rattle.chunk_regions.specs.inner.Spans.{IsCutTo, set_anew}
use Rattle.chunk_regions.proofs.spans.cut_anew.Given as goal

-- the rows before `row` are cut
abbrev pub invariant-loop-row : goal.invariant-loop-row
invariant-loop-row l = IsCutTo (set_anew l.before l.from l.to l.bits) l.starts.items l.spans.items l.row
