use Rattle.std.proofs.Common.{ℕ, ◌≡◌, ◌≤◌, ◌++◌, map, take, drop}
use Rattle.std.specs.Prelude.{slice_index}
use Rattle.chunk_regions.specs.inner.Joining.{number_in}
use Rattle.chunk_regions.proofs.label_spans.number_spans.Given as goal

abbrev pub invariant-loop-region : goal.invariant-loop-region
invariant-loop-region l = record {
  numbered : l.regions ≡ map (number_in l.numbers) (take l.region-index l.fn.regions) ++ drop l.region-index l.fn.regions;
  rest : (k : ℕ) → l.region-index ≤ k → slice_index l.regions k ≡ slice_index l.fn.regions k;
}
