use Rattle.std.proofs.Common.{ℕ, ◌≡◌, ◌<◌, List, length, get_or, Ok, sym, ap, ◌∙◌, subst}
use Rattle.nav_types.specs.Counting.{Lists}
use Rattle.std.proofs.lemmas.List.Elements.{Contains-get_or}
use Rattle.std.proofs.lemmas.Result.{IfOk-at_ok}
use Rattle.posts.specs.declared.posts.Request.{Request}
use Rattle.turn_core.specs.Solving.{AreAnswersTo}
use Rattle.turn_core.specs.Notes.{AreNotes}
use Rattle.path_workers.specs.declared.placing.Answered.{Answered}
use Rattle.path_workers.specs.inner.Ranking.{jobs_at}
use Rattle.path_workers.specs.inner.Working.{job_numbers, AnswerTheirJobs}
use Rattle.path_workers.proofs.Working.{all_numbered}
use Rattle.path_workers.proofs.turns.Workers.run_once.Goals as goal

pub draw_by-worked-requires-clause-order : goal.draw_by-worked-requires-clause-order
draw_by-worked-requires-clause-order g c lifetimes within = λ place d inside.
    let lists : Lists (λ job. job < length c.as_slice-jobs.result.now) c.deref.result.now =
    subst (λ (places : List ℕ). Lists (λ job. job < length c.as_slice-jobs.result.now) places) (sym c.deref.ensures.value) c.in_ok-order.ensures.all in
    lists.each (get_or c.deref.result.now place d) (Contains-get_or c.deref.result.now place d inside)

pub in_order-requires : goal.in_order-requires
in_order-requires g c =
    let is = c.in_ok-answered.is in
    let was = c.in_ok-answered.was in
    let ok : c.draw_by-worked.result.answered ≡ Ok c.in_ok-answered.answered = cc in
    let numbers = IfOk-at_ok (λ (answered : List Answered). job_numbers answered ≡ jobs_at c.deref.result.now c.draw_by-worked.result.seat.drawn) ok c.draw_by-worked.ensures.numbers in
    let order : c.deref.result.now ≡ c.in_ok-order.order.items = c.deref.ensures.value in
    let places = c.in_ok-places.ensures in
    record {
      jobs = subst (λ (count : ℕ). Lists (λ job. job < count) (job_numbers c.in_ok-answered.answered)) (sym places.answers)
          (all_numbered (length c.as_slice-jobs.result.now) c.in_ok-claims.claims.jobs c.deref.result.now c.in_ok-answered.answered c.draw_by-worked.result.seat.drawn c.close-drawings.result
          (subst (λ (places : List ℕ). Lists (λ job. job < length c.as_slice-jobs.result.now) places) (sym order) c.in_ok-order.ensures.all)
          (c.in_ok-claims.ensures.jobs ∙ sym (ap length order ∙ c.in_ok-order.ensures.count)) numbers c.close-drawings.ensures.list c.close-drawings.ensures.all);
      notes = places.notes ∙ sym places.answers;
    }

pub returns-clause-answers : goal.returns-clause-answers
returns-clause-answers g c =
    let map = c.args.version.now.map in
    let standing = c.args.version.now.standing in
    let requests = c.as_slice-jobs.result.now in
    let is = c.in_ok-answered.is in
    let was = c.in_ok-answered.was in
    let ok : c.draw_by-worked.result.answered ≡ Ok c.in_ok-answered.answered = cc in
    let answers = IfOk-at_ok (AnswerTheirJobs map standing c.args.report requests) ok c.draw_by-worked.ensures.answers in
    subst (λ (rs : List Request). AreAnswersTo map standing rs c.in_order.result.answers) c.as_slice-jobs.ensures
    (c.in_order.ensures.answers map standing c.args.report requests (sym c.in_ok-places.ensures.answers) answers)

pub returns-clause-notes : goal.returns-clause-notes
returns-clause-notes g c =
    let map = c.args.version.now.map in
    let standing = c.args.version.now.standing in
    let requests = c.as_slice-jobs.result.now in
    let is = c.in_ok-answered.is in
    let was = c.in_ok-answered.was in
    let ok : c.draw_by-worked.result.answered ≡ Ok c.in_ok-answered.answered = cc in
    let answers = IfOk-at_ok (AnswerTheirJobs map standing c.args.report requests) ok c.draw_by-worked.ensures.answers in
    subst (λ (rs : List Request). AreNotes map standing c.args.report rs c.in_order.result.notes) c.as_slice-jobs.ensures
    (c.in_order.ensures.notes map standing c.args.report requests (sym c.in_ok-places.ensures.answers) answers)
