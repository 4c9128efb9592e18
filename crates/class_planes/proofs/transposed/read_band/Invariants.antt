use Rattle.std.proofs.Common.{ℕ, ◌≡◌, ◌<◌, ◌≤◌, ◌+◌, ◌*◌, get_or}
use Rattle.std.specs.Int.{bit_at}
use Rattle.nav_types.specs.Cells.{cell_at}
use Rattle.lane_rows.specs.Rows.{one_if}
use Rattle.class_planes.specs.inner.Lines.{free_cell}
use Rattle.class_planes.specs.inner.StopLines.{map_lines}
use Rattle.class_planes.proofs.transposed.read_band.Given as goal

-- the numbers of the rows before row k of the band are read
abbrev pub invariant-loop-k : goal.invariant-loop-k
invariant-loop-k l = record {
  bits : (j b : ℕ) → j < l.k → b < 16 → bit_at (get_or l.numbers (l.from + j) 0) b
      ≡ one_if (free_cell (record { size = l.map.size; rows = map_lines l.map.rows.now }) (cell_at (16 * l.group + b) (32 * l.band + j)));
  others : (j : ℕ) → (l.from ≤ j → j < l.from + 32 → ⊥) → get_or l.numbers j 0 ≡ get_or l.fn.numbers j 0;
}
