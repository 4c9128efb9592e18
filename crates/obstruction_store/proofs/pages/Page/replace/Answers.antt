use Rattle.std.proofs.Common.{IsSome, is_some, refl, ap, sym, ◌∙◌}
use Rattle.std.specs.FinMap as map
use Rattle.obstruction_store.specs.inner.Held.{slot_at}
use Rattle.obstruction_store.proofs.Holding.{stands_at, none_stands, IsHeld-write, held-write, slot_written}
use Rattle.obstruction_store.proofs.Refusing.{some_not_none}
use Rattle.obstruction_store.proofs.pages.Page.replace.Goals as goal

pub returns-in_default-clause-unknown : goal.returns-in_default-clause-unknown
returns-in_default-clause-unknown c = let at = c.self.inside in
    let none = none_stands at.keys at.obstructions.slots c.self.invariant c.args.self.now c.self.view_is c.args.id (sym c.in_default.ensures.value) in
    (λ _. none, λ _. refl)

pub index_mut-requires : goal.index_mut-requires
index_mut-requires c = c.self.invariant.full c.args.id c.in-Some.key.now (sym c.in-Some.ensures.value)

pub invariant_of-self : goal.invariant_of-self
invariant_of-self c = let at = c.self.inside in
    IsHeld-write at.keys at.obstructions.slots _ c.args.id c.in-Some.key.now c.args.obstruction c.self.invariant
    (sym c.in-Some.ensures.value)
    (slot_written at.obstructions.slots c.in-Some.key.now c.args.obstruction
    (c.self.invariant.full c.args.id c.in-Some.key.now (sym c.in-Some.ensures.value)))

pub returns-clause-replaced : goal.returns-clause-replaced
returns-clause-replaced c = let at = c.self.inside in
    held-write at.keys at.obstructions.slots _ c.args.id c.in-Some.key.now c.args.obstruction c.self.invariant
    (sym c.in-Some.ensures.value)
    (slot_written at.obstructions.slots c.in-Some.key.now c.args.obstruction
    (c.self.invariant.full c.args.id c.in-Some.key.now (sym c.in-Some.ensures.value)))
    ∙ ap (λ m. map.insert m c.args.id c.args.obstruction) c.self.view_is

pub returns-clause-unknown : goal.returns-clause-unknown
returns-clause-unknown c = let at = c.self.inside in
    let full : IsSome (slot_at at.obstructions.slots c.in-Some.key.now) =
    c.self.invariant.full c.args.id c.in-Some.key.now (sym c.in-Some.ensures.value) in
    let stands = stands_at at.keys at.obstructions.slots c.self.invariant c.args.self.now c.self.view_is c.args.id c.in-Some.key.now
    (sym c.in-Some.ensures.value) in
    (λ err. absurd (cc), λ none. absurd (some_not_none (map.get c.args.self.now c.args.id) (ap is_some stands ∙ full) none))
