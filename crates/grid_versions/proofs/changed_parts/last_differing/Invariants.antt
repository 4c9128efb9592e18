use Rattle.std.proofs.Common.{ℕ, ◌≡◌, ◌<◌, ◌≤◌}
use Rattle.nav_types.specs.Cells.{cell_at}
use Rattle.nav_types.specs.Numbering.{number_of}
use Rattle.grid_versions.proofs.changed_parts.last_differing.Given as goal

-- the cells of the row after column i are as before
abbrev pub invariant-columns : goal.invariant-columns
invariant-columns l = record {
  low : l.first ≤ l.i;
  high : l.i ≤ l.fn.part.i1;
  same : (i : ℕ) → l.i < i → i ≤ l.fn.part.i1
      → number_of l.before (cell_at i l.j) ≡ number_of l.after (cell_at i l.j);
}

abbrev pub decreases-columns : goal.decreases-columns
decreases-columns l = l.i
