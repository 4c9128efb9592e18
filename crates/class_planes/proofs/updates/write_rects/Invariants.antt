use Rattle.std.proofs.Common.{◌+◌, ◌/◌}
use Rattle.class_planes.proofs.ReadLemmas.{AreRightBut}
use Rattle.class_planes.proofs.updates.write_rects.Given as goal

-- the bits are right where none of the rectangles that are still to come holds the cell
abbrev pub invariant-loop-read : goal.invariant-loop-read
invariant-loop-read g l =
    AreRightBut (g.V.View.passes l.view l.class) l.first ((g.V.View.extent l.view).w / 64 + 1) l.reads l.read-index l.band
