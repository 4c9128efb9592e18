use Rattle.std.proofs.Common.{Some, refl, sym, subst}
use Rattle.pathserve_c.specs.declared.states.State.{State}
use Rattle.pathserve_c.specs.declared.states.State.TheVariants.{Structs}
use Rattle.pathserve_c.specs.Saves.{IsForgotten}
use Rattle.pathserve_c.proofs.snapshots.forget_in.Goals as goal

pub returns-in-Structs : goal.returns-in-Structs
returns-in-Structs c =
    let made = c.forget.new.structs in
    subst (λ (old : State). IsForgotten (Some old) (Some (Structs made)) c.forget.result) (sym c.in-Structs.is)
    (made, (refl, c.forget.ensures))
