use Rattle.std.proofs.Common.{ℕ}
use Rattle.posts.specs.declared.replies.Answer.{Answer}
use Rattle.posts.specs.declared.replies.Answer.TheVariants.{Refused}
use Rattle.grid_versions.specs.Passing.{passable_at}
use Rattle.turn_core.specs.NamedGoals.{class_named, is_on_map, goal_found}
use Rattle.turn_core.specs.Solving.{IsPathFound}
use Rattle.turn_core.proofs.Answered.{asked_on_map, answered_at, found_err}
use Rattle.turn_core.proofs.WantedWalks.{refused_at, wanted_at}
use Rattle.turn_core.proofs.near_answers.want_of_path.Goals as goal

pub returns-in-Ok-goal_of : goal.returns-in-Ok-goal_of
returns-in-Ok-goal_of c =
    let request = c.args.request.now in
    let map = c.args.version.now.map in
    let asked = c.in-Ok.ensures.asked in
    wanted_at c.args.version.now request.x request.z (class_named map request.class)
    (is_on_map map.size request.x request.z) (goal_found map c.args.version.now.standing request.goal)
    c.in-Ok.asked.class c.in-Ok-goal_of.goal c.walk_to.result asked.named
    (asked_on_map map request.class request.x request.z c.in-Ok.asked.class _ asked) c.in-Ok-goal_of.ensures.found
    c.walk_to.ensures

pub returns-in-Err-goal_of : goal.returns-in-Err-goal_of
returns-in-Err-goal_of c =
    let request = c.args.request.now in
    let map = c.args.version.now.map in
    let standing = c.args.version.now.standing in
    let found = goal_found map standing request.goal in
    let asked = c.in-Ok.ensures.asked in
    let class = c.in-Ok.asked.class in
    let refusal = c.in-Err-goal_of.refusal in
    let Answers : ℕ → Answer → Type 0 = λ k. IsPathFound (passable_at map standing k) request.x request.z found in (
      answered_at (class_named map request.class) (is_on_map map.size request.x request.z) Answers (Refused refusal) class
          asked.named (asked_on_map map request.class request.x request.z class _ asked)
          (found_err (passable_at map standing class) request.x request.z refusal found c.in-Err-goal_of.ensures.found),
      λ most far. far,
    )

pub returns-in-Err : goal.returns-in-Err
returns-in-Err c =
    let request = c.args.request.now in
    let map = c.args.version.now.map in
    let standing = c.args.version.now.standing in
    let found = goal_found map standing request.goal in
    let Answers : ℕ → Answer → Type 0 = λ k. IsPathFound (passable_at map standing k) request.x request.z found in (
      refused_at (class_named map request.class) (is_on_map map.size request.x request.z) Answers (Refused c.in-Err.refusal)
          c.in-Err.ensures.refused,
      λ most far. far,
    )
