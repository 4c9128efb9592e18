use Rattle.nav_types.specs.Cells.{IsInside}
use Rattle.flat_ways.specs.inner.Legs.{IsOnLeg}
use Rattle.flat_ways.proofs.legs.leg.Given as goal

abbrev pub invariant-loop-walked : goal.invariant-loop-walked
invariant-loop-walked g l = IsOnLeg (g.V.View.passes l.view l.class) l.dir l.steps l.fn.from l.to l.walked l.at
    × IsInside (g.V.View.extent l.view) l.at
