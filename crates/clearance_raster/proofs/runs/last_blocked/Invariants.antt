use Rattle.std.proofs.Common.{◌-◌, ◌≤◌, ◌<◌, ℕ, IsFalse}
use Rattle.nav_types.specs.Cells.{cell_at}
use Rattle.obstruction_shapes.specs.Blocking.{blocked}
use Rattle.clearance_raster.proofs.runs.last_blocked.Given as goal

-- no column past `last` is blocked
abbrev pub invariant-walk : goal.invariant-walk
invariant-walk l = record {
  west : l.first ≤ l.last;
  east : l.last ≤ l.end;
  after : (i : ℕ) → l.last < i → i ≤ l.end → IsFalse (blocked l.shape l.clearance (cell_at i l.j));
}

abbrev pub decreases-walk : goal.decreases-walk
decreases-walk l = l.last - l.first
