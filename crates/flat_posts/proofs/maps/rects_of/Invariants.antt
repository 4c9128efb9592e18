use Rattle.std.proofs.Common.{take}
use Rattle.std.specs.List.{AllZip}
use Rattle.flat_posts.specs.Maps.{IsRectOf}
use Rattle.flat_posts.proofs.maps.rects_of.Given as goal

abbrev pub invariant-loop-flat : goal.invariant-loop-flat
invariant-loop-flat l = AllZip IsRectOf (take l.flat-index l.flats) l.rects
