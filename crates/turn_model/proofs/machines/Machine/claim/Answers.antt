use Rattle.std.proofs.Common.{◌≡◌, Option, None, refl, sym, ap, ◌∙◌, subst}
use Rattle.path_service.specs.declared.events.Event.TheVariants.{Claim}
use Rattle.turn_model.specs.declared.machines.running.RunningTurn.{RunningTurn}
use Rattle.path_service.specs.machine.States.{State}
use Rattle.path_service.specs.machine.Table.{why_not, last_turn}
use Rattle.path_service.specs.machine.Effects.{claimed}
use Rattle.turn_model.specs.inner.Machines.{state_of, HoldsState}
use Rattle.turn_model.proofs.MachineSteps.{unclaimed_held, claimed_holds, claimed_is}
use Rattle.turn_model.proofs.machines.Machine.claim.Goals as goal

pub claim-requires : goal.claim-requires
claim-requires c =
    let a = c.self.inside in
    unclaimed_held (last_turn (state_of a)) a.running
    (subst (λ (s : State). why_not s Claim ≡ None) (sym c.self.view_is) c.requires)

pub invariant_of-self : goal.invariant_of-self
invariant_of-self c =
    let a = c.self.inside in
    subst (λ (o : Option RunningTurn). HoldsState (record a { running = o })) (sym c.claim.ensures) (claimed_holds a c.self.invariant)

pub returns : goal.returns
returns c =
    let a = c.self.inside in (
      refl,
      ap (λ (o : Option RunningTurn). state_of (record a { running = o })) c.claim.ensures
          ∙ claimed_is a a.running refl
          ∙ ap (λ (s : State). claimed s s.running) c.self.view_is,
    )
