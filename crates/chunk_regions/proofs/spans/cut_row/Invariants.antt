use Rattle.std.proofs.Common.{ℕ, ◌≡◌, ◌<◌, length}
use Rattle.std.specs.Prelude.{slice_get}
use Rattle.chunk_regions.proofs.RowLemmas.{IsCutBelow}
use Rattle.chunk_regions.proofs.spans.cut_row.Given as goal

abbrev pub invariant-loop-edges : goal.invariant-loop-edges
invariant-loop-edges l = record {
  kept : (k : ℕ) → k < length l.initial.spans.items → slice_get l.spans.items k ≡ slice_get l.initial.spans.items k;
  cut : IsCutBelow l.bits (length l.initial.spans.items) l.spans.items l.edges;
}

abbrev pub decreases-loop-edges : goal.decreases-loop-edges
decreases-loop-edges l = l.edges
