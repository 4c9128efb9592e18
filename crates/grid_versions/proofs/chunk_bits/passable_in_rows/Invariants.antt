use Rattle.std.proofs.Common.{ℕ, ◌≡◌, ◌<◌, ◌≤◌, ◌==◌, length}
use Rattle.std.specs.Int.{bit_at}
use Rattle.std.specs.Prelude.{slice_index}
use Rattle.class_planes.specs.Planes.{is_passable}
use Rattle.chunk_regions.specs.Labelling.{cell_of}
use Rattle.grid_versions.proofs.chunk_bits.passable_in_rows.Given as goal

-- the rows before `row` are read
abbrev pub invariant-loop-row : goal.invariant-loop-row
invariant-loop-row l = record {
  long : length l.bits ≡ 96;
  set : (row column : ℕ) → l.fn.rows.from ≤ row → row < l.row → column < 96
      → (bit_at (slice_index l.bits row) column == 1) ≡ is_passable l.plane (cell_of l.fn.chunk row column);
}
