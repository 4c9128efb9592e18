use Rattle.clearance_raster.proofs.Reaching.{IsFound}
use Rattle.clearance_raster.proofs.reaches.greatest_clearance.Given as goal

-- the classes below `number` are looked at
abbrev pub invariant-loop-number : goal.invariant-loop-number
invariant-loop-number l = IsFound l.mask l.classes l.number l.greatest
