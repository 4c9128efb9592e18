use Rattle.std.proofs.Common.{◌≡◌, ◌≤◌, List, [], ◌∷◌, ◌++◌, Option, None, Some, length, refl, sym, ap, ◌∙◌, subst}
use Rattle.std.specs.Prelude.{vec_capacity}
use Rattle.posts.specs.declared.replies.TurnReplies.{TurnReplies}
use Rattle.posts.specs.Posts.{jobs}
use Rattle.path_service.specs.declared.events.Event.TheVariants.{Deliver}
use Rattle.turn_model.specs.declared.machines.running.RunningTurn.{RunningTurn}
use Rattle.turn_model.specs.declared.machines.delivered.DeliveredTurn.{DeliveredTurn}
use Rattle.turn_model.specs.declared.machines.Machine.TheInside.{Inside}
use Rattle.turn_core.specs.Solving.{AreAnswersTo}
use Rattle.turn_core.specs.Words.{MapState}
use Rattle.turn_core.specs.ReadyTurns.{after_edits_of}
use Rattle.path_service.specs.machine.States.{State}
use Rattle.path_service.specs.machine.Table.{why_not}
use Rattle.path_service.specs.machine.Effects.{delivered}
use Rattle.path_service.specs.machine.Facts.{Facts}
use Rattle.turn_model.specs.inner.Runs.{version_for_next, answers_held}
use Rattle.turn_model.specs.inner.Machines.{HoldsRun, HoldsStaged}
use Rattle.turn_model.proofs.MachineSteps.{answers_given, delivered_holds, delivered_is, version_is}
use Rattle.turn_model.proofs.ReplyPlaces.{come_still}
use Rattle.turn_model.proofs.machines.Machine.deliver.Goals as goal

pub answered-posts-requires : goal.answered-posts-requires
answered-posts-requires c =
    let a = c.self.inside in
    let run : RunningTurn = c.in-Some.run' in
    let is : a.running ≡ Some run = sym c.in-Some.ensures.value in
    subst (AreAnswersTo run.ready.map (after_edits_of run.ready) (jobs run.ready.turn)) (sym c.given_answers.ensures)
    (answers_given a run c.self.invariant (subst Facts (sym c.self.view_is) c.requires.facts) is (subst (HoldsRun a.version) is c.self.invariant.running)
    (subst (λ (s : State). why_not s Deliver ≡ None) (sym c.self.view_is) c.requires.enabled))

pub given_answers-requires-clause-room : goal.given_answers-requires-clause-room
given_answers-requires-clause-room c =
    let is : c.self.inside.running ≡ Some c.in-Some.run' = sym c.in-Some.ensures.value in
    subst (λ (o : Option RunningTurn). length (answers_held o) ≤ vec_capacity c.in_ok-room.room) is c.in_ok-room.ensures.room

pub invariant_of-self-2 : goal.invariant_of-self-2
invariant_of-self-2 c =
    let a = c.self.inside in
    let run : RunningTurn = c.in-Some.run' in
    let is : a.running ≡ Some run = sym c.in-Some.ensures.value in
    let after : MapState = c.answered-posts.result.1.after in
    let told = c.answered-posts.ensures in
    let turn : DeliveredTurn = record { posts = c.answered-posts.result.0; replies = c.answered-posts.result.1.replies.replies } in
    let pushed : c.push_turn.new.delivered.items ≡ a.delivered.items ++ turn ∷ [] =
    c.push_turn.ensures ∙ ap (λ (ds : List DeliveredTurn). ds ++ turn ∷ []) c.in_ok-reserve.ensures.items in
    record {
      standing = delivered_holds a run after c.push_turn.new.delivered.items turn c.self.invariant (subst (HoldsRun a.version) is c.self.invariant.running)
          told.map told.standing pushed told.posts;
      running = subst (HoldsRun after) (sym c.in-Some.ensures.after) tt;
      staged = subst (λ (o : Option RunningTurn). HoldsStaged (version_for_next after o) a.staged) (sym c.in-Some.ensures.after)
          (subst (λ (v : MapState). HoldsStaged v a.staged) (sym (version_is after run.ready told.map told.standing))
          (subst (λ (o : Option RunningTurn). HoldsStaged (version_for_next a.version o) a.staged) is c.self.invariant.staged));
      come = come_still a.delivered.items c.push_turn.new.delivered.items turn a.collected.items a.places.items pushed c.self.invariant.come;
    }

pub returns-clause-ok : goal.returns-clause-ok
returns-clause-ok c =
    let a = c.self.inside in
    let run : RunningTurn = c.in-Some.run' in
    let is : a.running ≡ Some run = sym c.in-Some.ensures.value in
    let held = subst (HoldsRun a.version) is c.self.invariant.running in
    let told : TurnReplies = c.answered-posts.result.1.replies in
    let clauses = c.answered-posts.ensures in
    let turn : DeliveredTurn = record { posts = c.answered-posts.result.0; replies = told.replies } in
    let pushed : c.push_turn.new.delivered.items ≡ a.delivered.items ++ turn ∷ [] =
    c.push_turn.ensures ∙ ap (λ (ds : List DeliveredTurn). ds ++ turn ∷ []) c.in_ok-reserve.ensures.items in
    let given = answers_given a run c.self.invariant (subst Facts (sym c.self.view_is) c.requires.facts) is held
    (subst (λ (s : State). why_not s Deliver ≡ None) (sym c.self.view_is) c.requires.enabled) in
    let new : Inside = record a { version = c.answered-posts.result.1.after; running = c.take.new.self; delivered = c.push_turn.new.delivered } in (
      refl,
      delivered_is a new run turn told c.self.invariant held is clauses.map refl refl refl c.in-Some.ensures.after refl pushed clauses.posts refl given clauses.told
          ∙ ap (λ (t : State). delivered t t.running) c.self.view_is,
    )
