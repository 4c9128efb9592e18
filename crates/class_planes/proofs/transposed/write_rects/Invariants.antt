use Rattle.class_planes.specs.inner.StopLines.{map_lines}
use Rattle.class_planes.proofs.ColumnLemmas.{AreColumnsBut}
use Rattle.class_planes.proofs.transposed.write_rects.Given as goal

-- the bits are right where none of the rectangles that are still to come holds the cell
abbrev pub invariant-loop-rect : goal.invariant-loop-rect
invariant-loop-rect l =
    AreColumnsBut (record { size = l.map.size; rows = map_lines l.map.rows.now }) l.band l.rects l.rect-index l.words
