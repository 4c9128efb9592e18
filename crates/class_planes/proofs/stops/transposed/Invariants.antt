use Rattle.std.proofs.Common.{◌≡◌, map, take}
use Rattle.class_planes.specs.inner.StopLines.{turned_rect}
use Rattle.class_planes.proofs.stops.transposed.Given as goal

abbrev pub invariant-loop-rect : goal.invariant-loop-rect
invariant-loop-rect l = l.others.items ≡ map turned_rect (take l.rect-index l.rects)
