use Rattle.std.proofs.Common.{ℕ, ◌≡◌, ◌<◌, ◌≤◌}
use Rattle.nav_types.specs.Cells.{cell_at}
use Rattle.nav_types.specs.Numbering.{number_of}
use Rattle.grid_versions.proofs.changed_parts.first_differing.Given as goal

-- the cells of the row before column i are as before
abbrev pub invariant-loop-i : goal.invariant-loop-i
invariant-loop-i l = (i : ℕ) → l.fn.part.i0 ≤ i → i < l.i
    → number_of l.before (cell_at i l.j) ≡ number_of l.after (cell_at i l.j)
