use Rattle.std.proofs.Common.{◌≡◌, Bool, true, false, Some, refl, sym, subst, ◌∙◌}
use Rattle.pathserve_c.specs.declared.states.State.TheVariants.{Text}
use Rattle.pathserve_c.specs.Calls.{IsFedTo}
use Rattle.pathserve_c.specs.LineLimits.{fits_limit}
use Rattle.pathserve_c.proofs.texts.feed_in_limit.Goals as goal

pub returns-then-has_room : goal.returns-then-has_room
returns-then-has_room c =
    let old = c.args.text.now in
    let made = c.feed.new.self in
    let piece = c.args.bytes.now.now in
    let room : true ≡ fits_limit old.limit piece = sym c.if-has_room.true ∙ c.has_room.ensures in
    subst (λ (fits : Bool). IsFedTo fits old (Some (Text made)) piece c.feed.new.bytes.now c.status_of.result) room
    (made, (c.feed.result, (refl, (c.status_of.ensures, c.feed.ensures))))

pub returns-else-has_room : goal.returns-else-has_room
returns-else-has_room c =
    let old = c.args.text.now in
    let piece = c.args.bytes.now.now in
    let room : false ≡ fits_limit old.limit piece = sym c.if-has_room.false ∙ c.has_room.ensures in
    subst (λ (fits : Bool). IsFedTo fits old (Some (Text old)) piece piece 23) room ((refl, refl), refl)
