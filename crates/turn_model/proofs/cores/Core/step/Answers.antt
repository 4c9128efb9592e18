use Rattle.std.proofs.Common.{◌≡◌, Option, Result, None, sym, subst, IfOk}
use Rattle.std.specs.Prelude.{IsSome, ◌↔◌}
use Rattle.posts.specs.declared.replies.Reply.{Reply}
use Rattle.path_service.specs.declared.events.Event.{Event}
use Rattle.turn_model.specs.declared.refusals.StepRefusal.{StepRefusal}
use Rattle.path_service.specs.machine.States.{State}
use Rattle.path_service.specs.machine.Table.{why_not}
use Rattle.path_service.specs.machine.Effects.{IsCollect}
use Rattle.path_service.specs.machine.Facts.{Facts}
use Rattle.path_service.proofs.machine.Keeping.{kept}
use Rattle.turn_model.proofs.MachineSteps.{handed_is}
use Rattle.turn_model.proofs.cores.Core.step.Goals as goal
use Rattle.turn_model.proofs.cores.Core.step.Goals.{in-Ok, in-Err}

pub invariant_of-self : goal.invariant_of-self
invariant_of-self c =
    let old : State = c.self.inside.machine in
    let event : Event = c.args.event.now in
    let enabled : why_not old event ≡ None = sym c.in_default.ensures in
    elim c.match-apply.branch [
      | in-Ok w ↦ kept old event w.in-Ok.handed c.apply.new.self c.self.invariant (record { enabled = enabled; effect = w.in-Ok.ensures.ok })
      | in-Err w ↦ subst Facts (sym w.in-Err.ensures.err) c.self.invariant
    ]

pub returns-clause-handed : goal.returns-clause-handed
returns-clause-handed c =
    let old : State = c.self.inside.machine in
    let event : Event = c.args.event.now in
    let enabled : why_not old event ≡ None = sym c.in_default.ensures in
    let P : Result (Option Reply) StepRefusal → Type 0 = λ r. IfOk r (λ handed. IsSome handed ↔ IsCollect event) in
    elim c.match-apply.branch [
      | in-Ok w ↦ subst P (sym w.result-is) (handed_is old event w.in-Ok.handed c.apply.new.self (record { enabled = enabled; effect = w.in-Ok.ensures.ok }))
      | in-Err w ↦ subst P (sym w.result-is) tt
    ]

pub returns-clause-facts : goal.returns-clause-facts
returns-clause-facts c =
    let old : State = c.self.inside.machine in
    let event : Event = c.args.event.now in
    let enabled : why_not old event ≡ None = sym c.in_default.ensures in
    elim c.match-apply.branch [
      | in-Ok w ↦ kept old event w.in-Ok.handed c.apply.new.self c.self.invariant (record { enabled = enabled; effect = w.in-Ok.ensures.ok })
      | in-Err w ↦ subst Facts (sym w.in-Err.ensures.err) c.self.invariant
    ]
