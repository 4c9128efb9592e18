use Rattle.std.proofs.Common.{take}
use Rattle.std.specs.List.{AllZip}
use Rattle.flat_posts.specs.Maps.{IsClassOf}
use Rattle.flat_posts.proofs.maps.classes_of.Given as goal

abbrev pub invariant-loop-flat : goal.invariant-loop-flat
invariant-loop-flat l = AllZip IsClassOf (take l.flat-index l.flats) l.classes
