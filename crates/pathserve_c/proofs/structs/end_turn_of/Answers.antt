use Rattle.std.proofs.Common.{Some, refl, sym, subst}
use Rattle.pathserve_c.specs.declared.states.State.{State}
use Rattle.pathserve_c.specs.declared.states.State.TheVariants.{Structs}
use Rattle.pathserve_c.specs.Calls.{IsEnded}
use Rattle.pathserve_c.proofs.structs.end_turn_of.Goals as goal

pub returns-in-Structs : goal.returns-in-Structs
returns-in-Structs c =
    let made = c.end_turn.new.structs in
    subst (λ (old : State). IsEnded (Some old) (Some (Structs made)) c.args.turn.now c.end_turn.new.turn c.end_turn.result) (sym c.in-Structs.is)
    (made, (refl, c.end_turn.ensures))
