use Rattle.std.proofs.Common.{◌≡◌, length}
use Rattle.nav_types.specs.Cells.{cell_at}
use Rattle.class_planes.specs.inner.Lines.{IsBand}
use Rattle.class_planes.proofs.rows.band_of.Given as goal

abbrev pub invariant-loop-k : goal.invariant-loop-k
invariant-loop-k g l = record {
  wide : length l.scratch ≡ length l.fn.scratch;
  band : IsBand (λ j i. g.V.View.passes l.view l.class (cell_at i j)) l.first (length l.fn.scratch) l.k l.band.items;
}
