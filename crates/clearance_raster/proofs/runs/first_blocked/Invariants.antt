use Rattle.std.proofs.Common.{◌≤◌, ◌<◌, ℕ, IsFalse}
use Rattle.nav_types.specs.Cells.{cell_at}
use Rattle.obstruction_shapes.specs.Blocking.{blocked}
use Rattle.clearance_raster.proofs.runs.first_blocked.Given as goal

-- no column before column i is blocked
abbrev pub invariant-loop-i : goal.invariant-loop-i
invariant-loop-i l = (i : ℕ) → l.start ≤ i → i < l.i → IsFalse (blocked l.shape l.clearance (cell_at i l.j))
