use Rattle.std.proofs.Common.{ℕ, ◌<◌, ◌⊎◌, get_or}
use Rattle.std.specs.List.{Contains}
use Rattle.grid_versions.proofs.reachers.unchanged_ids.Given as goal

-- the numbers before `id-index` are done
abbrev pub invariant-loop-id : goal.invariant-loop-id
invariant-loop-id l = record {
  either : (k : ℕ) → k < l.id-index → Contains l.changed (get_or l.ids k 0) ⊎ Contains l.kept (get_or l.ids k 0);
}
