use Rattle.std.proofs.Common.{ℕ, Some, refl}
use Rattle.std.proofs.lemmas.Bool.{both_ways, false_from_ne_true}
use Rattle.grid_versions.specs.Passing.{passable_at}
use Rattle.posts.specs.declared.replies.Answer.{Answer}
use Rattle.turn_core.specs.NamedGoals.{goal_found, is_on_map}
use Rattle.turn_core.specs.Solving.{IsPathFound}
use Rattle.turn_core.proofs.FoundGoals.{on_map_decides}
use Rattle.pathserve_c.proofs.PathEnds.{off_map, on_it}
use Rattle.pathserve_c.proofs.endings.end_by_point.Goals as goal

pub returns-then-is_on_map : goal.returns-then-is_on_map
returns-then-is_on_map c = λ told is.
    let v = c.args.version.now in
    let Answers : ℕ → Answer → Type 0 = λ k. IsPathFound (passable_at v.map v.standing k) c.args.x c.args.z (goal_found v.map v.standing c.args.goal.now) in
    c.end_by_goal.ensures told
    (on_it (Some c.args.class) (is_on_map v.map.size c.args.x c.args.z) Answers told c.args.class refl
    ((on_map_decides v.map.size c.args.x c.args.z).1 (c.is_on_map.ensures.0 c.if-is_on_map.true)) is)

pub returns-else-is_on_map : goal.returns-else-is_on_map
returns-else-is_on_map c = λ told is.
    let v = c.args.version.now in
    let Answers : ℕ → Answer → Type 0 = λ k. IsPathFound (passable_at v.map v.standing k) c.args.x c.args.z (goal_found v.map v.standing c.args.goal.now) in
    let on = is_on_map v.map.size c.args.x c.args.z in
    let off = false_from_ne_true on
    (λ it. both_ways c.is_on_map.result c.if-is_on_map.false
    (c.is_on_map.ensures.1 ((on_map_decides v.map.size c.args.x c.args.z).0 it))) in
    off_map (Some c.args.class) on Answers told c.args.class refl off is
