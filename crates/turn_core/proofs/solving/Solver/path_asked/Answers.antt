use Rattle.std.proofs.Common.{ℕ, IfOk, subst, sym}
use Rattle.posts.specs.declared.notes.Noted.{Noted}
use Rattle.posts.specs.declared.replies.Answer.{Answer}
use Rattle.posts.specs.declared.replies.Answer.TheVariants.{Refused}
use Rattle.grid_versions.specs.Passing.{passable_at}
use Rattle.turn_core.specs.NamedGoals.{class_named, is_on_map, goal_found}
use Rattle.turn_core.specs.Notes.{IsNoteBy, IsNoteTo, IsPathNote}
use Rattle.turn_core.specs.Solving.{IsPathAsked, IsPathFound, IsPathTo}
use Rattle.turn_core.specs.Solvers.{SolverState}
use Rattle.turn_core.proofs.Answered.{asked_on_map, answered_at, answered_ok, found_ok, found_err, note_for}
use Rattle.turn_core.proofs.solving.Solver.path_asked.Goals as goal

pub returns-in-Ok-goal_of-clause-answer : goal.returns-in-Ok-goal_of-clause-answer
returns-in-Ok-goal_of-clause-answer c =
    let request = c.args.request.now in
    let map = c.self.inside.version.now.map in
    let standing = c.self.inside.version.now.standing in
    let found = goal_found map standing request.goal in
    let class = c.in-Ok.asked.class in
    let goal_there = c.in-Ok-goal_of.goal in
    let Answers : ℕ → Answer → Type 0 = λ k. IsPathFound (passable_at map standing k) request.x request.z found in
    let asked = c.in-Ok.ensures.asked in
    let walked = subst (λ (s : SolverState). IfOk c.path_to.result (λ (noted : Noted). IsPathTo (passable_at s.state.map s.state.standing class)
    request.x request.z goal_there noted.answer)) (sym c.self.view_is) c.path_to.ensures.answer in
    subst (λ (s : SolverState). IfOk c.path_to.result (λ (noted : Noted). IsPathAsked s.state.map s.state.standing request noted.answer)) c.self.view_is
    (answered_ok (class_named map request.class) (is_on_map map.size request.x request.z) Answers c.path_to.result class asked.named
    (asked_on_map map request.class request.x request.z class _ asked)
    (found_ok (passable_at map standing class) request.x request.z goal_there found c.path_to.result c.in-Ok-goal_of.ensures.found walked))

pub returns-in-Ok-goal_of-clause-note : goal.returns-in-Ok-goal_of-clause-note
returns-in-Ok-goal_of-clause-note c =
    let request = c.args.request.now in
    let map = c.self.inside.version.now.map in
    let standing = c.self.inside.version.now.standing in
    let class = c.in-Ok.asked.class in
    let goal_there = c.in-Ok-goal_of.goal in
    let told = subst (λ (s : SolverState). IfOk c.path_to.result (λ (noted : Noted). IsNoteBy (IsNoteTo s.report
    (passable_at s.state.map s.state.standing class) s.state.map.size goal_there) noted.answer noted.note)) (sym c.self.view_is) c.path_to.ensures.note in
    subst (λ (s : SolverState). IfOk c.path_to.result (λ (noted : Noted). IsNoteBy (IsPathNote s.state.map s.state.standing s.report
    request) noted.answer noted.note)) c.self.view_is
    (note_for map standing c.self.inside.report request class goal_there c.path_to.result
    c.in-Ok.ensures.asked.named c.in-Ok-goal_of.ensures.found told)

pub returns-in-Err-goal_of-clause-answer : goal.returns-in-Err-goal_of-clause-answer
returns-in-Err-goal_of-clause-answer c =
    let request = c.args.request.now in
    let map = c.self.inside.version.now.map in
    let standing = c.self.inside.version.now.standing in
    let found = goal_found map standing request.goal in
    let class = c.in-Ok.asked.class in
    let refusal = c.in-Err-goal_of.refusal in
    let Answers : ℕ → Answer → Type 0 = λ k. IsPathFound (passable_at map standing k) request.x request.z found in
    let asked = c.in-Ok.ensures.asked in
    subst (λ (s : SolverState). IsPathAsked s.state.map s.state.standing request (Refused refusal)) c.self.view_is
    (answered_at (class_named map request.class) (is_on_map map.size request.x request.z) Answers (Refused refusal) class asked.named
    (asked_on_map map request.class request.x request.z class _ asked)
    (found_err (passable_at map standing class) request.x request.z refusal found c.in-Err-goal_of.ensures.found))
