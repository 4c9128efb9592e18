use Rattle.class_planes.proofs.StopBandLemmas.{AreNear}
use Rattle.class_planes.proofs.stops.write_rect.Given as goal

-- the lines before line n are made anew
abbrev pub invariant-loop-n : goal.invariant-loop-n
invariant-loop-n l = AreNear l.way l.map.lines l.rect l.map.count l.first l.n l.fn.band l.band
