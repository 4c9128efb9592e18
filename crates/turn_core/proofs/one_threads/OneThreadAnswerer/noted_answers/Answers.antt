use Rattle.std.proofs.Common.{◌+◌, take, get_or, sym, subst, ◌∙◌, rules}
use Rattle.posts.specs.declared.posts.Request.{Request}
use Rattle.turn_core.specs.Solving.{AreAnswersTo}
use Rattle.turn_core.specs.Solvers.{SolverState}
use Rattle.turn_core.specs.Notes.{IsNotedTo, AreNotes}
use Rattle.turn_core.proofs.TurnByTurn.{answers_next}
use Rattle.turn_core.proofs.TurnNotes.{notes_next, note_of}
use Rattle.turn_core.proofs.one_threads.OneThreadAnswerer.noted_answers.Goals as goal

pub loop-job-preserved : goal.loop-job-preserved
loop-job-preserved c =
    let v = c.args.version.now in
    let report = c.args.report in
    let jobs = c.as_slice-requests.result.now in
    let i = c.loop-job.job-index in
    let noted = c.in_ok-answer.field-0 in
    let request = c.job-item.result in
    let s = c.loop-job.solver in
    let kept = c.loop-job.invariant in
    let job = get_or jobs i request in
    let here = subst (λ (r : Request). IsNotedTo s.state.map s.state.standing s.report r noted) c.job-item.is c.in_ok-answer.ensures.noted in
    let is = subst (λ (t : SolverState). IsNotedTo t.state.map t.state.standing t.report job noted) kept.solver here in
    record {
      solver = c.solve.ensures.same ∙ kept.solver;
      count = search rules;
      same = search rules;
      room = search rules;
      more = search rules;
      answers = subst (AreAnswersTo v.map v.standing (take (i + 1) jobs)) (sym c.push_reserved.ensures.items)
          (answers_next v.map v.standing jobs c.loop-job.answers.items i request noted.answer c.loop-job-test.true kept.answers is.answered);
      notes = subst (AreNotes v.map v.standing report (take (i + 1) jobs)) (sym c.push_reserved-in-loop-job.ensures.items)
          (notes_next v.map v.standing report jobs c.loop-job.notes.items i request noted.note c.loop-job-test.true kept.notes
          (note_of v.map v.standing report job noted is));
    }
