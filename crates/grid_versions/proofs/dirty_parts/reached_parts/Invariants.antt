use Rattle.std.proofs.Common.{ℕ, ◌<◌, ◌⊎◌, get_or}
use Rattle.std.specs.Prelude.{Contains}
use Rattle.grid_versions.specs.declared.dirty_parts.DirtyPart.{DirtyPart}
use Rattle.grid_versions.specs.inner.ReachedParts.{HasPart, IsReachedPart, IsUnreached}
use Rattle.grid_versions.proofs.dirty_parts.reached_parts.Given as goal

-- the places before `place-index` are done
abbrev pub invariant-loop-place : goal.invariant-loop-place
invariant-loop-place l = record {
  each : (part : DirtyPart) → Contains l.parts.items part → IsReachedPart l.size l.reaches part;
  all : (k : ℕ) → k < l.place-index
      → HasPart l.parts.items (get_or l.listed k 0) ⊎ IsUnreached l.size l.reaches (get_or l.listed k 0);
}
