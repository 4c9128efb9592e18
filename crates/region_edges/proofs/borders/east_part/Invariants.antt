use Rattle.std.proofs.Common.{ℕ, ◌≡◌, ◌<◌, ◌≤◌}
use Rattle.region_edges.specs.declared.neighbours.ChunkSide.TheVariants.{East}
use Rattle.region_edges.specs.inner.Borders.{numbers_at}
use Rattle.region_edges.proofs.borders.east_part.Given as goal

-- the places so far have the pair
abbrev pub invariant-loop-place : goal.invariant-loop-place
invariant-loop-place l = (k : ℕ) → l.at ≤ k → k < l.place → numbers_at East l.here l.there k ≡ l.pair
