use Rattle.std.proofs.Common.{◌∙◌, ℕ, Option, sym, subst}
use Rattle.grid_versions.specs.Passing.{passable_at}
use Rattle.posts.specs.declared.replies.Answer.{Answer}
use Rattle.turn_core.specs.NamedGoals.{class_named, goal_found, is_on_map}
use Rattle.turn_core.specs.Solving.{IsAnswerAt, IsAnswerTo, IsPathFound}
use Rattle.pathserve_c.proofs.PathEnds.{no_class}
use Rattle.pathserve_c.proofs.endings.end_by_name.Goals as goal

pub returns-in_default : goal.returns-in_default
unfolding IsAnswerTo
returns-in_default c = λ told is.
    let v = c.args.version.now in
    let request = c.args.request.now in
    let Answers : ℕ → Answer → Type 0 = λ k. IsPathFound (passable_at v.map v.standing k) request.x request.z (goal_found v.map v.standing request.goal) in
    no_class (class_named v.map request.class) (is_on_map v.map.size request.x request.z) Answers told (sym c.class_by.ensures.found ∙ c.in_default.is) is

pub returns : goal.returns
unfolding IsAnswerTo
returns c = λ told is.
    let v = c.args.version.now in
    let request = c.args.request.now in
    let Answers : ℕ → Answer → Type 0 = λ k. IsPathFound (passable_at v.map v.standing k) request.x request.z (goal_found v.map v.standing request.goal) in
    c.end_by_point.ensures told
    (subst (λ (named : Option ℕ). IsAnswerAt named (is_on_map v.map.size request.x request.z) Answers told)
    (sym c.class_by.ensures.found ∙ c.in-Some.is) is)
