use Rattle.std.proofs.Common.{ℕ, ◌≡◌, ◌⊎◌, ◌<◌, ◌≤◌, ◌+◌, ◌*◌}
use Rattle.class_planes.specs.Planes.{is_passable}
use Rattle.chunk_regions.specs.Labelling.{cell_of}
use Rattle.grid_versions.proofs.chunk_bits.changed_rows.Given as goal

-- the rows before `j` that differ lie between those
abbrev pub invariant-loop-j : goal.invariant-loop-j
invariant-loop-j l = record {
  order : l.rows.from ≤ l.rows.to;
  behind : 96 * l.fn.chunk.cj + l.rows.to ≤ l.j;
  agree : (row column : ℕ) → 96 * l.fn.chunk.cj + row < l.j → (row < l.rows.from) ⊎ (l.rows.to ≤ row) → row < 96 → column < 96
      → is_passable l.before (cell_of l.fn.chunk row column) ≡ is_passable l.plane (cell_of l.fn.chunk row column);
}
