use Rattle.class_planes.proofs.StopBandLemmas.{AreStopsBut}
use Rattle.class_planes.proofs.stops.write_rects.Given as goal

-- the bits are right where none of the rectangles that are still to come is near
abbrev pub invariant-loop-rect : goal.invariant-loop-rect
invariant-loop-rect l = AreStopsBut l.way l.map.lines l.map.count l.first l.rects l.rect-index l.band
