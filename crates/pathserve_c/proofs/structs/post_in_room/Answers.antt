use Rattle.std.proofs.Common.{◌≡◌, Bool, true, false, length, Some, refl, sym, subst, ◌∙◌}
use Rattle.pathserve_c.specs.declared.states.State.TheVariants.{Structs}
use Rattle.pathserve_c.specs.Calls.{IsPostedTo}
use Rattle.pathserve_c.specs.Structs.{has_room}
use Rattle.pathserve_c.proofs.structs.post_in_room.Goals as goal

pub returns-then-has_room : goal.returns-then-has_room
returns-then-has_room c =
    let old = c.args.structs.now in
    let made = c.post_all.new.self in
    let room : true ≡ has_room old (length c.args.posts.now) = sym c.if-has_room.true ∙ c.has_room.ensures in
    subst (λ (fits : Bool). IsPostedTo fits old (Some (Structs made)) c.args.posts.now c.status_of_posts.result) room
    (made, (c.post_all.result, (refl, (c.status_of_posts.ensures, c.post_all.ensures))))

pub returns-else-has_room : goal.returns-else-has_room
returns-else-has_room c =
    let old = c.args.structs.now in
    let room : false ≡ has_room old (length c.args.posts.now) = sym c.if-has_room.false ∙ c.has_room.ensures in
    subst (λ (fits : Bool). IsPostedTo fits old (Some (Structs old)) c.args.posts.now 23) room (refl, refl)
