use Rattle.std.proofs.Common.{ℕ, ◌<◌, ◌⊎◌, take}
use Rattle.std.specs.Prelude.{Contains}
use Rattle.grid_versions.specs.Chunks.{chunk_count}
use Rattle.grid_versions.specs.inner.ReachedParts.{IsUnreached}
use Rattle.grid_versions.proofs.dirty_parts.reached_places.Given as goal

-- the rectangles before `reach-index` are done
abbrev pub invariant-loop-reach : goal.invariant-loop-reach
invariant-loop-reach l = record {
  within : (k : ℕ) → Contains l.places.items k → k < chunk_count l.size;
  all : (k : ℕ) → k < chunk_count l.size
      → Contains l.places.items k ⊎ IsUnreached l.size (take l.reach-index l.reaches) k;
}
