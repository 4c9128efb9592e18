use Rattle.std.proofs.Common.{◌∙◌, sym, subst, ◌≡◌, Bool, IsTrue}
use Rattle.std.proofs.lemmas.Bool.{both_ways}
use Rattle.nav_types.specs.declared.cells.Cell.{Cell}
use Rattle.goal_shapes.specs.declared.goals.Goal.{Goal}
use Rattle.goal_shapes.specs.Goals.{contains}
use Rattle.goal_reach.proofs.Joining.{barred}
use Rattle.goal_reach.proofs.Roomy.{room_between}
use Rattle.goal_reach.proofs.rooms.is_room.Goals as goal

-- what was asked of a cell that was made is known of the cell
asked : (goal : Goal) {made corner : Cell} {result : Bool} → made ≡ corner → result ≡ contains goal made
    → IsTrue (contains goal corner) → IsTrue result
asked goal made is hit = is ∙ subst (λ (d : Cell). IsTrue (contains goal d)) (sym made) hit

pub returns : goal.returns
returns c = λ room.
    let it = c.args.goal.now in
    room_between it c.args.rect c.requires.inside_out
    (λ hit. both_ways c.contains.result c.if-contains.false (asked it c.new.ensures c.contains.ensures hit))
    (λ hit. both_ways c.contains-2.result c.if-contains-2.false (asked it c.new-2.ensures c.contains-2.ensures hit))
    (λ hit. both_ways c.contains-3.result c.if-contains-3.false (asked it c.new-3.ensures c.contains-3.ensures hit))
    (λ hit. barred c.contains-4.result room (asked it c.new-4.ensures c.contains-4.ensures hit))
