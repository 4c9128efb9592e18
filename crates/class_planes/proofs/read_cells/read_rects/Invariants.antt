use Rattle.std.proofs.Common.{take}
use Rattle.std.specs.Prelude.{All}
use Rattle.nav_types.specs.declared.cells.Cell.{Cell}
use Rattle.class_planes.specs.Planes.{IsOutside}
use Rattle.class_planes.specs.inner.Reading.{AreRead, IsUnread}
use Rattle.class_planes.proofs.read_cells.read_rects.Given as goal

-- the first rectangles are read
abbrev pub invariant-loop-rect : goal.invariant-loop-rect
invariant-loop-rect g l = record {
  read : All (AreRead (g.V.View.extent l.view) (g.V.View.class_count l.view) (g.V.View.passes l.view)) l.reads.items;
  covered : (cell : Cell) → IsUnread l.reads.items cell → IsOutside (take l.rect-index l.rects) cell;
}
