use Rattle.std.proofs.Common.{ℕ, ◌≡◌, ◌+◌, ◌*◌, ◌<◌, length, get_or}
use Rattle.std.specs.Int.{bit_at}
use Rattle.nav_types.specs.Cells.{cell_at}
use Rattle.nav_types.specs.Rows.{bit_of}
use Rattle.grid_versions.specs.Versions.{passes_of}
use Rattle.grid_versions.proofs.painted_map.PaintedMapRows.row_bits.Given as goal

-- the numbers of the chunks before `ci` are written
abbrev pub invariant-loop-ci : goal.invariant-loop-ci
invariant-loop-ci l = record {
  long : length l.out ≡ length l.fn.out;
  each : (k i : ℕ) → k < length l.self.map.classes → i < length l.out → l.from + i < 96 * l.ci
      → bit_at (get_or l.out i 0) k ≡ bit_of (passes_of l.self k (cell_at (l.from + i) l.j));
}
