use Rattle.std.proofs.Common.{ℕ, ◌≡◌, ◌<◌, ◌≤◌, ◌+◌, ◌*◌, ◌==◌, length}
use Rattle.std.specs.Int.{bit_at}
use Rattle.std.specs.Prelude.{slice_index}
use Rattle.nav_types.specs.Cells.{cell_at}
use Rattle.class_planes.specs.Planes.{is_passable}
use Rattle.grid_versions.proofs.chunk_bits.passable_cells.Given as goal

-- the rows before `j` are read
abbrev pub invariant-loop-j : goal.invariant-loop-j
invariant-loop-j l = record {
  long : length l.bits ≡ 96;
  set : (row column : ℕ) → column < 96 → 96 * l.fn.chunk.cj + row < l.j
      → (bit_at (slice_index l.bits row) column == 1) ≡ is_passable l.plane (cell_at (96 * l.fn.chunk.ci + column) (96 * l.fn.chunk.cj + row));
  rest : (row : ℕ) → row < 96 → l.j ≤ 96 * l.fn.chunk.cj + row → slice_index l.bits row ≡ 0;
}
