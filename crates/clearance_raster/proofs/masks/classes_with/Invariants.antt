use Rattle.clearance_raster.proofs.AlikeClasses.{AreFound}
use Rattle.clearance_raster.proofs.masks.classes_with.Given as goal

-- the classes below `number` are found
abbrev pub invariant-loop-number : goal.invariant-loop-number
invariant-loop-number l = AreFound l.classes l.clearance l.mask l.found l.number
