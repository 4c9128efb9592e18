use Rattle.std.proofs.Common.{refl, sym, subst, IfOk}
use Rattle.posts.specs.declared.notes.Note.TheVariants.{Nothing}
use Rattle.posts.specs.declared.notes.Noted.{Noted}
use Rattle.posts.specs.declared.posts.Request.{Request}
use Rattle.turn_core.specs.Solving.{IsAnswerTo}
use Rattle.turn_core.specs.Solvers.{SolverState}
use Rattle.turn_core.specs.Notes.{IsNoteOf, IsNotedTo}
use Rattle.turn_core.proofs.Answered.{noted_ok}
use Rattle.turn_core.proofs.solving.Solver.solve.Goals as goal

pub returns-in-Path-clause-noted : goal.returns-in-Path-clause-noted
unfolding IsAnswerTo
returns-in-Path-clause-noted c =
    let map = c.args.self.now.state.map in
    let standing = c.args.self.now.state.standing in
    noted_ok map standing c.args.self.now.report c.args.request.now c.path_asked.result
    (subst (λ (request : Request). IfOk c.path_asked.result (λ (noted : Noted). IsAnswerTo map standing request noted.answer))
    (sym c.in-Path.is) c.path_asked.ensures.answer)
    (subst (λ (request : Request). IfOk c.path_asked.result (λ (noted : Noted). IsNoteOf map standing c.args.self.now.report request noted.answer noted.note))
    (sym c.in-Path.is) c.path_asked.ensures.note)

pub returns-in-Region-clause-noted : goal.returns-in-Region-clause-noted
unfolding IsAnswerTo
returns-in-Region-clause-noted c =
    let map = c.self.inside.version.now.map in
    let standing = c.self.inside.version.now.standing in
    subst (λ (s : SolverState). IsNotedTo s.state.map s.state.standing s.report c.args.request.now (record { answer = c.region_asked.result; note = Nothing }))
    c.self.view_is
    (record {
      answered = subst (λ (request : Request). IsAnswerTo map standing request c.region_asked.result) (sym c.in-Region.is) c.region_asked.ensures;
      told = subst (λ (request : Request). IsNoteOf map standing c.self.inside.report request c.region_asked.result Nothing) (sym c.in-Region.is) refl;
    })
