use Rattle.std.proofs.Common.{◌≡◌}
use Rattle.nav_types.specs.declared.straights.Way.{Way}
use Rattle.class_planes.specs.inner.StopLines.{map_lines, stops_along}
use Rattle.class_planes.proofs.StopBandLemmas.{AreRenewed}
use Rattle.class_planes.proofs.stops.renew_stops.Given as goal

-- the bands before the next one are renewed
abbrev pub invariant-loop-band : goal.invariant-loop-band
invariant-loop-band l = record {
  lines : map_lines l.set ≡ map_lines l.fn.set;
  stops : (way : Way) → AreRenewed way (map_lines l.fn.set) l.count l.rects l.band (stops_along way l.set);
}
