-- Events lead to one state, and hand out the same replies.
use Rattle.std.proofs.Common.{◌≡◌, ℕ, List, [], ◌∷◌, Option, None, Some, refl, sym, ap, ◌∙◌, subst}
use Rattle.std.specs.Prelude.{slice_get}
use Rattle.posts.specs.declared.posts.Request.{Request}
use Rattle.posts.specs.declared.replies.Answer.{Answer}
use Rattle.posts.specs.declared.replies.Reply.{Reply}
use Rattle.posts.specs.Posts.{jobs}
use Rattle.path_service.specs.declared.events.Event.{Event}
use Rattle.path_service.specs.declared.events.Event.TheVariants.{Post as Posting, Stage, Start, Claim, Finish, Deliver, Collect}
use Rattle.turn_core.specs.Solving.{IsAnswerTo}
use Rattle.path_service.specs.machine.States.{State, Run, stands_in_run}
use Rattle.path_service.specs.machine.Effects.{finished, AnswersJob, IsStep, IsMachineRun}
use Rattle.turn_core.proofs.Threads.{same_cons}
use Rattle.turn_core.proofs.OneAnswer.{one_answer_to}

one_job_answer : (s : State) (job : ℕ) (a b : Answer) (o : Option Run) → AnswersJob s job a o → AnswersJob s job b o → a ≡ b
one_job_answer s job a b None x y = absurd x
one_job_answer s job a b (Some run) x y =
    let q : Request = x.0 in
    let r : Request = y.0 in
    let e : slice_get (jobs run.turn) job ≡ Some q = x.1.0 in
    let f : slice_get (jobs run.turn) job ≡ Some r = y.1.0 in
    let same : r ≡ q = cc in
    one_answer_to s.map (stands_in_run s run) q a b x.1.1 (subst (λ (z : Request). IsAnswerTo s.map (stands_in_run s run) z b) same y.1.1)

-- a step hands out one reply, and leaves one state
pub one_step : (old : State) (event : Event) (a b : Option Reply) (s t : State) → IsStep old event a s → IsStep old event b t → (a ≡ b) × (s ≡ t)
one_step old (Posting c p) a b s t x y = (x.effect.0 ∙ sym y.effect.0, x.effect.1 ∙ sym y.effect.1)
one_step old (Stage takes) a b s t x y = (x.effect.0 ∙ sym y.effect.0, x.effect.1 ∙ sym y.effect.1)
one_step old Start a b s t x y = (x.effect.0 ∙ sym y.effect.0, x.effect.1 ∙ sym y.effect.1)
one_step old Claim a b s t x y = (x.effect.0 ∙ sym y.effect.0, x.effect.1 ∙ sym y.effect.1)
one_step old (Finish job) a b s t x y = (
  x.effect.0 ∙ sym y.effect.0,
  x.effect.1.1.1 ∙ ap (λ (r : Answer). finished old job r old.running) (one_job_answer old job x.effect.1.0 y.effect.1.0 old.running x.effect.1.1.0 y.effect.1.1.0) ∙ sym y.effect.1.1.1,
)
one_step old Deliver a b s t x y = (x.effect.0 ∙ sym y.effect.0, x.effect.1 ∙ sym y.effect.1)
one_step old (Collect c) a b s t x y = (x.effect.0 ∙ sym y.effect.0, x.effect.1 ∙ sym y.effect.1)

-- a run hands out one list of replies, and leaves one state
pub one_run_of : (old : State) (events : List Event) (a b : List (Option Reply)) (s t : State) → IsMachineRun old events a s → IsMachineRun old events b t → (a ≡ b) × (s ≡ t)
one_run_of old [] [] [] s t x y = (refl, sym x ∙ y)
one_run_of old [] [] (h ∷ b) s t x y = absurd y
one_run_of old [] (h ∷ a) b s t x y = absurd x
one_run_of old (e ∷ events) [] b s t x y = absurd x
one_run_of old (e ∷ events) (h ∷ a) [] s t x y = absurd y
one_run_of old (e ∷ events) (h ∷ a) (g ∷ b) s t x y =
    let first = one_step old e h g x.0 y.0 x.1.0 y.1.0 in
    let rest = one_run_of x.0 events a b s t x.1.1 (subst (λ (z : State). IsMachineRun z events b t) (sym first.1) y.1.1) in
    (same_cons h g a b first.0 rest.0, rest.1)

pub one_replies : (old : State) (events : List Event) (a b : List (Option Reply)) (s t : State) → IsMachineRun old events a s → IsMachineRun old events b t → a ≡ b
one_replies old events a b s t x y = (one_run_of old events a b s t x y).0

pub one_state : (old : State) (events : List Event) (a b : List (Option Reply)) (s t : State) → IsMachineRun old events a s → IsMachineRun old events b t → s ≡ t
one_state old events a b s t x y = (one_run_of old events a b s t x y).1
