use Rattle.std.proofs.Common.{ℕ, ◌⊎◌}
use Rattle.std.specs.List.{Contains}
use Rattle.std.specs.FinMap as fin_map
use Rattle.obstruction_shapes.specs.declared.shapes.Obstruction.{Obstruction}
use Rattle.grid_versions.proofs.reachers.standing_ids.Given as goal

-- what is no longer to come is listed
abbrev pub invariant-loop-id : goal.invariant-loop-id
invariant-loop-id l = record {
  all : (entry : ℕ × Obstruction) → Contains (fin_map.entries l.shapes) entry
      → Contains l.id-iterator entry ⊎ Contains l.ids entry.0;
}
