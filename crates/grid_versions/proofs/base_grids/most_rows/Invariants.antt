use Rattle.std.proofs.Common.{◌<◌, ◌≤◌, ℕ, get_or}
use Rattle.nav_types.specs.Numbering.{rows}
use Rattle.grid_versions.proofs.base_grids.most_rows.Given as goal

abbrev pub invariant-loop-entry : goal.invariant-loop-entry
invariant-loop-entry l = record {
  some : 1 ≤ l.most;
  each : (p : ℕ) → p < l.entry-index → rows (get_or l.base p (record { i0 = 0; j0 = 0; i1 = 0; j1 = 0 }, 0)).0 ≤ l.most;
}
