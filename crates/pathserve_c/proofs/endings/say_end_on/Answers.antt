use Rattle.std.proofs.Common.{inl, inr, refl}
use Rattle.pathserve_c.proofs.endings.say_end_on.Goals as goal

pub returns-in-Some : goal.returns-in-Some
returns-in-Some c = inr (c.in-Some.end, (c.in-Some.ensures.some, (c.kind_of.ensures, c.cell_told.ensures)))

pub returns-in-None : goal.returns-in-None
returns-in-None c = inl (c.in-None.ensures.none, (refl, refl))
