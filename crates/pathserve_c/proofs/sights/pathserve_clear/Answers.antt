use Rattle.std.proofs.Common.{Option, subst, sym}
use Rattle.line_smooth.specs.Segments.{IsClear}
use Rattle.pathserve_c.specs.declared.states.State.{State}
use Rattle.pathserve_c.specs.Handles.{passes_seen}
use Rattle.pathserve_c.specs.Sights.{IsOneWhere, cell_held}
use Rattle.pathserve_c.proofs.Sighted.{unseen}
use Rattle.pathserve_c.proofs.sights.pathserve_clear.Goals as goal

pub returns-in_default-clause-clear : goal.returns-in_default-clause-clear
returns-in_default-clause-clear c =
    let from = cell_held c.args.from.now in let to = cell_held c.args.to.now in
    subst (λ (state : Option State). IsOneWhere (IsClear (passes_seen state c.args.class_number) from to) 0) (sym c.in_default.ensures.none) (unseen from to)
