use Rattle.std.proofs.Common.{ℕ, ◌≡◌, ◌<◌, ◌≤◌, ◌+◌, ◌==◌, length}
use Rattle.std.specs.Int.{bit_at}
use Rattle.std.specs.Prelude.{slice_index}
use Rattle.nav_types.specs.Cells.{cell_at}
use Rattle.chunk_regions.proofs.bits.read.Given as goal

abbrev pub invariant-loop-j : goal.invariant-loop-j
invariant-loop-j g l = record {
  long : length l.bits ≡ 96;
  done : (row column : ℕ) → column < 96 → l.rect.j0 + row < l.j
      → (bit_at (slice_index l.bits row) column == 1) ≡ g.V.View.passes l.view l.class (cell_at (l.rect.i0 + column) (l.rect.j0 + row));
  rest : (row : ℕ) → row < 96 → l.j ≤ l.rect.j0 + row → slice_index l.bits row ≡ 0;
}
