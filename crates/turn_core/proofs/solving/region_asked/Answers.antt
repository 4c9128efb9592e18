use Rattle.std.proofs.Common.{ℕ, refl}
use Rattle.posts.specs.declared.replies.Answer.{Answer}
use Rattle.posts.specs.declared.replies.Answer.TheVariants.{Region}
use Rattle.grid_versions.specs.Passing.{passable_at}
use Rattle.turn_core.specs.NamedGoals.{class_named, is_on_map}
use Rattle.turn_core.specs.Solving.{IsRegionAt}
use Rattle.turn_core.proofs.Answered.{asked_on_map, answered_at}
use Rattle.turn_core.proofs.solving.region_asked.Goals as goal

pub returns-in-Ok : goal.returns-in-Ok
returns-in-Ok c =
    let query = c.args.query.now in
    let map = c.args.version.now.map in
    let Answers : ℕ → Answer → Type 0 = λ class. IsRegionAt (passable_at map c.args.version.now.standing class) query.x query.z in
    let asked = c.in-Ok.ensures.asked in
    answered_at (class_named map query.class) (is_on_map map.size query.x query.z) Answers (Region c.region_at.result) c.in-Ok.asked.class asked.named
    (asked_on_map map query.class query.x query.z c.in-Ok.asked.class c.in-Ok.asked.cell asked)
    (c.region_at.result, (refl, c.region_at.ensures query.x query.z asked.holder))
