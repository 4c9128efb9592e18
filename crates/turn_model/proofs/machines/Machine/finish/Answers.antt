use Rattle.std.proofs.Common.{◌≡◌, None, refl, sym, ap, ◌∙◌, subst}
use Rattle.posts.specs.declared.replies.Answer.{Answer}
use Rattle.path_service.specs.declared.events.Event.TheVariants.{Finish}
use Rattle.path_service.specs.machine.States.{State}
use Rattle.path_service.specs.machine.Table.{why_not, last_turn}
use Rattle.path_service.specs.machine.Effects.{finished, AnswersJob}
use Rattle.path_service.specs.machine.Facts.{Facts}
use Rattle.turn_model.specs.inner.Machines.{state_of}
use Rattle.turn_model.proofs.MachineSteps.{job_held, place_held, while_held, finished_holds, finished_is, answers_job}
use Rattle.turn_model.proofs.machines.Machine.finish.Goals as goal

pub answer_to-requires : goal.answer_to-requires
answer_to-requires c =
    let a = c.self.inside in
    job_held (last_turn (state_of a)) c.args.job a.version a.running
    (while_held a c.self.invariant (subst Facts (sym c.self.view_is) c.requires.facts))
    (subst (λ (s : State). why_not s (Finish c.args.job) ≡ None) (sym c.self.view_is) c.requires.enabled)

pub put_answer-requires : goal.put_answer-requires
put_answer-requires c =
    let a = c.self.inside in
    place_held (last_turn (state_of a)) c.args.job a.version a.running
    (while_held a c.self.invariant (subst Facts (sym c.self.view_is) c.requires.facts))
    (subst (λ (s : State). why_not s (Finish c.args.job) ≡ None) (sym c.self.view_is) c.requires.enabled)

pub invariant_of-self : goal.invariant_of-self
invariant_of-self c = finished_holds c.self.inside c.put_answer.new.running c.args.job c.in_ok-answer.answer c.put_answer.ensures c.self.invariant

pub returns-clause-ok : goal.returns-clause-ok
returns-clause-ok c =
    let a = c.self.inside in
    let answer : Answer = c.in_ok-answer.answer in (
      refl,
      (
        answer,
        (
          subst (λ (s : State). AnswersJob s c.args.job answer s.running) c.self.view_is (answers_job a c.args.job answer a.running c.self.invariant c.self.invariant.running c.in_ok-answer.ensures),
          finished_is a a.running c.put_answer.new.running c.args.job answer c.put_answer.ensures
              ∙ ap (λ (s : State). finished s c.args.job answer s.running) c.self.view_is,
        ),
      ),
    )
