use Rattle.std.specs.Prelude.{drop}
use Rattle.nav_types.specs.Cells.{IsInside}
use Rattle.flat_ways.proofs.LegWalks.{IsLeft}
use Rattle.flat_ways.proofs.corners.are_corners.Given as goal

abbrev pub invariant-loop-corner : goal.invariant-loop-corner
invariant-loop-corner g l = IsLeft (g.V.View.passes l.view l.class) l.fn.start l.corners l.at l.before (drop l.corner-index l.corners)
    × IsInside (g.V.View.extent l.view) l.at
