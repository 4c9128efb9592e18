use Rattle.std.proofs.Common.{refl, ap, sym, ◌∙◌, arith}
use Rattle.std.specs.FinMap as map
use Rattle.obstruction_store.proofs.Holding.{stands_at, none_stands, IsHeld-remove, held-remove}
use Rattle.obstruction_store.proofs.pages.Page.remove.Goals as goal

pub returns-in_default-clause-unknown : goal.returns-in_default-clause-unknown
returns-in_default-clause-unknown c = let at = c.self.inside in
    let none = none_stands at.keys at.obstructions.slots c.self.invariant c.args.self.now c.self.view_is c.args.id (sym c.remove.ensures.value ∙ c.in_default.is) in
    (λ _. none, λ _. refl)

pub remove-requires-2 : goal.remove-requires-2
remove-requires-2 c = c.self.invariant.full c.args.id c.in-Some.key (sym c.remove.ensures.value ∙ c.in-Some.is)

pub invariant_of-self-2 : goal.invariant_of-self-2
invariant_of-self-2 c = let at = c.self.inside in
    let few = c.self.invariant.few in
    let less = c.remove.ensures.len in
    IsHeld-remove at.keys c.remove.new.self at.obstructions c.remove-2.new.self c.args.id c.in-Some.key c.self.invariant
    (sym c.remove.ensures.value ∙ c.in-Some.is) c.remove.ensures.updates c.remove-2.ensures.updates c.remove.ensures.ordered (omega arith)

pub returns-clause-taken : goal.returns-clause-taken
returns-clause-taken c = let at = c.self.inside in
    stands_at at.keys at.obstructions.slots c.self.invariant c.args.self.now c.self.view_is c.args.id c.in-Some.key (sym c.remove.ensures.value ∙ c.in-Some.is)
    ∙ c.remove-2.ensures.value

pub returns-clause-removed : goal.returns-clause-removed
returns-clause-removed c = let at = c.self.inside in
    held-remove at.keys c.remove.new.self at.obstructions c.remove-2.new.self c.args.id c.in-Some.key c.self.invariant
    (sym c.remove.ensures.value ∙ c.in-Some.is) c.remove.ensures.updates c.remove-2.ensures.updates (invariant_of-self-2 c)
    ∙ ap (λ m. map.remove m c.args.id) c.self.view_is

pub returns-clause-unknown : goal.returns-clause-unknown
returns-clause-unknown c = let found = returns-clause-taken c in
    (λ err. absurd (cc), λ none. absurd (cc))
