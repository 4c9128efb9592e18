use Rattle.std.proofs.Common.{◌+◌, ◌/◌}
use Rattle.nav_types.specs.Cells.{cell_at}
use Rattle.class_planes.specs.inner.Lines.{AreLines}
use Rattle.class_planes.specs.inner.StopLines.{AreSameStops, map_lines}
use Rattle.class_planes.proofs.updates.updated_lines.Given as goal

-- the bands before the next one are those of the view, with the stops of before
abbrev pub invariant-loop-band : goal.invariant-loop-band
invariant-loop-band g l = record {
  lines : AreLines (λ j i. g.V.View.passes l.view l.class (cell_at i j)) l.band ((g.V.View.extent l.view).w / 64 + 1)
      (map_lines l.lines);
  stops : AreSameStops l.band l.before l.lines;
}
