use Rattle.std.proofs.Common.{◌<◌, List, length, refl, sym, ◌∙◌, subst}
use Rattle.nav_types.specs.Counting.{Lists}
use Rattle.posts.specs.declared.replies.Answer.{Answer}
use Rattle.posts.specs.declared.notes.Note.{Note}
use Rattle.turn_core.specs.Solving.{AreAnswersTo}
use Rattle.turn_core.specs.Notes.{AreNotes}
use Rattle.path_workers.specs.declared.placing.Answered.{Answered}
use Rattle.path_workers.specs.inner.Working.{job_numbers, AnswerTheirJobs}
use Rattle.path_workers.proofs.Placed.{below_all, placed_are, placed_notes}
use Rattle.path_workers.proofs.placing.in_order.Goals as goal

pub placed-answers-requires : goal.placed-answers-requires
placed-answers-requires c =
    let all = c.into_items.result.items in
    let blank = c.args.places in
    let count = length blank.answers.items in
    let lists = subst (λ (answered : List Answered). Lists (λ job. job < count) (job_numbers answered)) (sym c.into_items.ensures) c.requires.jobs in
    record {
      answers = below_all blank.answers.items all count refl lists;
      notes = below_all blank.notes.items all count c.requires.notes lists;
    }

pub returns-clause-answers : goal.returns-clause-answers
returns-clause-answers c = λ map standing report jobs many answers.
    let all = c.into_items.result.items in
    let blank = c.args.places in
    let count = length blank.answers.items in
    let lists = subst (λ (answered : List Answered). Lists (λ job. job < count) (job_numbers answered)) (sym c.into_items.ensures) c.requires.jobs in
    subst (λ (placed : List Answer). AreAnswersTo map standing jobs placed) (sym (c.from.ensures ∙ c.placed-answers.ensures.answers))
    (placed_are blank.answers.items all count refl lists map standing report jobs many
    (subst (λ (answered : List Answered). AnswerTheirJobs map standing report jobs answered) (sym c.into_items.ensures) answers))

pub returns-clause-notes : goal.returns-clause-notes
returns-clause-notes c = λ map standing report jobs many answers.
    let all = c.into_items.result.items in
    let blank = c.args.places in
    let count = length blank.answers.items in
    let lists = subst (λ (answered : List Answered). Lists (λ job. job < count) (job_numbers answered)) (sym c.into_items.ensures) c.requires.jobs in
    subst (λ (placed : List Note). AreNotes map standing report jobs placed) (sym (c.from-2.ensures ∙ c.placed-answers.ensures.notes))
    (placed_notes blank.notes.items all count c.requires.notes lists map standing report jobs many
    (subst (λ (answered : List Answered). AnswerTheirJobs map standing report jobs answered) (sym c.into_items.ensures) answers))
