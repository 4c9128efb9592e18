use Rattle.std.proofs.Common.{◌≡◌, None, Some, refl, sym, ap, ◌∙◌, subst}
use Rattle.path_service.specs.declared.events.Event.TheVariants.{Start}
use Rattle.turn_model.specs.declared.machines.running.RunningTurn.{RunningTurn}
use Rattle.path_service.specs.machine.States.{State}
use Rattle.path_service.specs.machine.Table.{why_not}
use Rattle.path_service.specs.machine.Effects.{started}
use Rattle.turn_model.specs.inner.Machines.{state_of}
use Rattle.turn_model.proofs.MachineSteps.{start_none, started_holds, started_is}
use Rattle.turn_model.proofs.machines.Machine.start.Goals as goal

pub invariant_of-self-2 : goal.invariant_of-self-2
invariant_of-self-2 c =
    let a = c.self.inside in
    let ready : RunningTurn = c.in-Some.ready in
    let is : a.staged ≡ Some ready = sym c.in-Some.ensures.value in
    let none : a.running ≡ None = start_none (state_of a) (subst (λ (s : State). why_not s Start ≡ None) (sym c.self.view_is) c.requires) a.running refl in
    started_holds a ready c.self.invariant is none (record a { running = Some ready; staged = c.take.new.self }) refl refl refl c.in-Some.ensures.after c.self.invariant.come

pub returns : goal.returns
returns c =
    let a = c.self.inside in
    let ready : RunningTurn = c.in-Some.ready in
    let is : a.staged ≡ Some ready = sym c.in-Some.ensures.value in
    let none : a.running ≡ None = start_none (state_of a) (subst (λ (s : State). why_not s Start ≡ None) (sym c.self.view_is) c.requires) a.running refl in (
      refl,
      started_is a (record a { running = Some ready; staged = c.take.new.self }) ready c.self.invariant is none refl refl refl c.in-Some.ensures.after refl refl refl
          ∙ ap (λ (s : State). started s s.staged) c.self.view_is,
    )
