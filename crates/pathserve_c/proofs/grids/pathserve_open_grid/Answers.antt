use Rattle.std.proofs.Common.{Option, refl, sym, subst}
use Rattle.pathserve_c.specs.declared.states.State.{State}
use Rattle.pathserve_c.specs.Grids.{IsMadeOnGrid, IsOpenedOnGrid}
use Rattle.pathserve_c.specs.Handles.{state_of}
use Rattle.pathserve_c.proofs.grids.pathserve_open_grid.Goals as goal

pub returns-in-Ok-open-2-clause-opened : goal.returns-in-Ok-open-2-clause-opened
returns-in-Ok-open-2-clause-opened c =
    let map = c.args.map.now in let classes = c.args.classes.now in let masks = c.args.masks.now in
    let closed = c.requires.handle.0 c.if-game-ne0.false in
    let new = state_of c.open-2.new.self in
    subst (λ (old : Option State). IsOpenedOnGrid map classes masks old new 0) (sym closed)
    (subst (λ (made : Option State). IsMadeOnGrid map classes masks made 0) (sym c.in-Ok-open-2.ensures.opened)
    (refl, (c.in-Ok.map, (c.in-Ok.ensures.map, c.in-Ok-open.ensures))))
