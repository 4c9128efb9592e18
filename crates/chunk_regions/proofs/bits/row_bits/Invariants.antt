use Rattle.std.proofs.Common.{ℕ, ◌≡◌, ◌<◌, ◌+◌, ◌-◌, ◌^◌, ◌==◌}
use Rattle.std.specs.Int.{bit_at}
use Rattle.nav_types.specs.Cells.{cell_at}
use Rattle.chunk_regions.proofs.bits.row_bits.Given as goal

abbrev pub invariant-loop-i : goal.invariant-loop-i
invariant-loop-i g l = record {
  few : l.bits < 2 ^ (l.i - l.west);
  bits : (column : ℕ) → l.west + column < l.i → (bit_at l.bits column == 1) ≡ g.V.View.passes l.view l.class (cell_at (l.west + column) l.j);
}
