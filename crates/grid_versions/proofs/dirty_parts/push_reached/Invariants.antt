use Rattle.std.proofs.Common.{ℕ, ◌<◌, ◌≤◌, ◌⊎◌}
use Rattle.std.specs.Prelude.{Contains}
use Rattle.grid_versions.specs.Chunks.{chunk_count}
use Rattle.grid_versions.specs.inner.ReachedParts.{Misses}
use Rattle.grid_versions.proofs.dirty_parts.push_reached.Given as goal

-- the places before `place` are looked at
abbrev pub invariant-loop-place : goal.invariant-loop-place
invariant-loop-place l = record {
  within : ((k : ℕ) → Contains l.fn.places.items k → k < chunk_count l.fn.size)
      → (k : ℕ) → Contains l.places.items k → k < chunk_count l.fn.size;
  kept : (k : ℕ) → Contains l.fn.places.items k → Contains l.places.items k;
  reached : (k : ℕ) → l.first ≤ k → k < l.place → Contains l.places.items k ⊎ Misses l.fn.size l.fn.reach k;
}
