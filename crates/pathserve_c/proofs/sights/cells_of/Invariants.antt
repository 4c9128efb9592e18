use Rattle.std.proofs.Common.{◌≡◌, take}
use Rattle.pathserve_c.specs.Sights.{cells_held}
use Rattle.pathserve_c.proofs.sights.cells_of.Given as goal

abbrev pub invariant-loop-flat : goal.invariant-loop-flat
invariant-loop-flat l = l.cells ≡ cells_held (take l.flat-index l.flats)
