use Rattle.std.proofs.Common.{◌+◌, ◌/◌}
use Rattle.nav_types.specs.Cells.{cell_at}
use Rattle.class_planes.specs.inner.Lines.{AreLines, free_cell}
use Rattle.class_planes.specs.inner.StopLines.{AreSameStops, map_lines}
use Rattle.class_planes.proofs.transposed.updated_columns.Given as goal

-- the columns before the next band are those of the rows, with the stops of before
abbrev pub invariant-loop-band : goal.invariant-loop-band
invariant-loop-band l = record {
  lines : AreLines (λ i j. free_cell (record { size = l.fn.size; rows = map_lines l.rows }) (cell_at i j)) l.band
      (l.fn.size.h / 64 + 1) (map_lines l.lines);
  stops : AreSameStops l.band l.before l.lines;
}
