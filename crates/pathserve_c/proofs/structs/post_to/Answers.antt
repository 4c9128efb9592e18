use Rattle.std.proofs.Common.{Some, sym, subst}
use Rattle.pathserve_c.specs.declared.states.State.{State}
use Rattle.pathserve_c.specs.declared.states.State.TheVariants.{Structs}
use Rattle.pathserve_c.specs.Calls.{IsPosted}
use Rattle.pathserve_c.proofs.structs.post_to.Goals as goal

pub returns-in-Structs : goal.returns-in-Structs
returns-in-Structs c =
    let made = c.post_in_room.new.structs in
    subst (λ (old : State). IsPosted (Some old) (Some (Structs made)) c.args.posts.now c.post_in_room.result) (sym c.in-Structs.is) c.post_in_room.ensures
