use Rattle.std.proofs.Common.{◌≡◌, ◌≤◌, Some, is_some, refl, ap, sym, subst, ◌∙◌, arith}
use Rattle.std.specs.FinMap as map
use Rattle.obstruction_shapes.specs.declared.shapes.Obstruction.{Obstruction}
use Rattle.slab.specs.Slab.{Slab, Updates}
use Rattle.obstruction_store.specs.inner.Held.{held_standing, IsHeld}
use Rattle.obstruction_store.proofs.Holding.{stands_with_key, none_without_key, len-stands, is_full, IsHeld-add, held-add}
use Rattle.obstruction_store.proofs.Refusing.{at_most_one, some_not_none}
use Rattle.obstruction_store.proofs.pages.Page.add.Goals as goal

-- where the number has a key
pub returns-then-contains_key-clause-duplicate : goal.returns-then-contains_key-clause-duplicate
returns-then-contains_key-clause-duplicate c = let at = c.self.inside in
    let stands = stands_with_key at.keys at.obstructions.slots c.self.invariant c.args.self.now c.self.view_is c.args.id (sym c.contains_key.ensures ∙ c.if-contains_key.true) in
    (λ _. stands, λ _. refl)

pub returns-then-contains_key-clause-full : goal.returns-then-contains_key-clause-full
returns-then-contains_key-clause-full c = let at = c.self.inside in
    let stands = stands_with_key at.keys at.obstructions.slots c.self.invariant c.args.self.now c.self.view_is c.args.id (sym c.contains_key.ensures ∙ c.if-contains_key.true) in
    (λ other. absurd (cc), λ full. absurd (some_not_none _ stands full.0))

-- where it has none and there are as many as may be
pub returns-then-len-clause-duplicate : goal.returns-then-len-clause-duplicate
returns-then-len-clause-duplicate c = let at = c.self.inside in
    let none = none_without_key at.keys at.obstructions.slots c.self.invariant c.args.self.now c.self.view_is c.args.id (sym c.contains_key.ensures ∙ c.if-contains_key.false) in
    (λ other. absurd (cc), λ stands. absurd (some_not_none _ stands none))

pub returns-then-len-clause-full : goal.returns-then-len-clause-full
returns-then-len-clause-full c = let at = c.self.inside in
    let none = none_without_key at.keys at.obstructions.slots c.self.invariant c.args.self.now c.self.view_is c.args.id (sym c.contains_key.ensures ∙ c.if-contains_key.false) in
    let full = is_full at.keys at.obstructions.slots c.self.invariant c.args.self.now c.self.view_is (subst (λ n. 65536 ≤ n) c.len.ensures.len c.if-len.true) in
    (λ _. (none, full), λ _. refl)

-- where there is no memory for the slot
pub returns-in_default-clause-duplicate : goal.returns-in_default-clause-duplicate
returns-in_default-clause-duplicate c = let at = c.self.inside in
    let none = none_without_key at.keys at.obstructions.slots c.self.invariant c.args.self.now c.self.view_is c.args.id (sym c.contains_key.ensures ∙ c.if-contains_key.false) in
    (λ other. absurd (cc), λ stands. absurd (some_not_none _ stands none))

pub returns-in_default-clause-full : goal.returns-in_default-clause-full
returns-in_default-clause-full c = let at = c.self.inside in
    let len = len-stands at.keys at.obstructions.slots c.self.invariant c.args.self.now c.self.view_is in
    let room = c.if-len.false in
    (λ other. absurd (cc), λ full. absurd (let all = full.1 in omega (arith, len, c.len.ensures.len)))

-- where there is no memory for the key
pub returns-in_default-insert-clause-duplicate : goal.returns-in_default-insert-clause-duplicate
returns-in_default-insert-clause-duplicate c = let at = c.self.inside in
    let none = none_without_key at.keys at.obstructions.slots c.self.invariant c.args.self.now c.self.view_is c.args.id (sym c.contains_key.ensures ∙ c.if-contains_key.false) in
    (λ other. absurd (cc), λ stands. absurd (some_not_none _ stands none))

pub returns-in_default-insert-clause-full : goal.returns-in_default-insert-clause-full
returns-in_default-insert-clause-full c = let at = c.self.inside in
    let len = len-stands at.keys at.obstructions.slots c.self.invariant c.args.self.now c.self.view_is in
    let room = c.if-len.false in
    (λ other. absurd (cc), λ full. absurd (let all = full.1 in omega (arith, len, c.len.ensures.len)))

-- where the obstruction is added, to the slots as they were before more room was made
same_slots : (c : goal.After-insert_reserved) → c.reserve.new.self.slots ≡ c.self.inside.obstructions.slots
same_slots c = ap (λ (s : Slab Obstruction). s.slots) c.reserve.ensures.rest_kept

held : (c : goal.After-insert_reserved) → IsHeld c.self.inside.keys c.reserve.new.self.slots
held c = subst (IsHeld c.self.inside.keys) (sym (same_slots c)) c.self.invariant

of_slots : (c : goal.After-insert_reserved) → Updates c.reserve.new.self c.insert_reserved.new.self c.vacant_key.result (Some c.args.obstruction)
of_slots c = subst (λ k. Updates c.reserve.new.self c.insert_reserved.new.self k (Some c.args.obstruction))
    (c.insert_reserved.ensures.key ∙ sym c.vacant_key.ensures.value) c.insert_reserved.ensures.updates

pub invariant_of-self-2 : goal.invariant_of-self-2
invariant_of-self-2 c =
    let room = c.if-len.false in
    IsHeld-add c.self.inside.keys c.insert.new.self c.reserve.new.self c.insert_reserved.new.self c.args.id c.vacant_key.result (held c)
    c.args.obstruction c.vacant_key.ensures.vacant c.in-Ok-insert.ensures.updates (of_slots c)
    c.insert.ensures.ordered (omega (arith, at_most_one (is_some c.in-Ok-insert.field-0), c.in-Ok-insert.ensures.len, c.len.ensures.len))

pub returns-clause-added : goal.returns-clause-added
returns-clause-added c =
    held-add c.self.inside.keys c.insert.new.self c.reserve.new.self c.insert_reserved.new.self c.args.id c.vacant_key.result (held c)
    c.args.obstruction c.vacant_key.ensures.vacant c.in-Ok-insert.ensures.updates (of_slots c) (invariant_of-self-2 c)
    ∙ ap (λ m. map.insert m c.args.id c.args.obstruction) (ap (held_standing c.self.inside.keys) (same_slots c) ∙ c.self.view_is)

pub returns-clause-duplicate : goal.returns-clause-duplicate
returns-clause-duplicate c = let at = c.self.inside in
    let none = none_without_key at.keys at.obstructions.slots c.self.invariant c.args.self.now c.self.view_is c.args.id (sym c.contains_key.ensures ∙ c.if-contains_key.false) in
    (λ other. absurd (cc), λ stands. absurd (some_not_none _ stands none))

pub returns-clause-full : goal.returns-clause-full
returns-clause-full c = let at = c.self.inside in
    let len = len-stands at.keys at.obstructions.slots c.self.invariant c.args.self.now c.self.view_is in
    let room = c.if-len.false in
    (λ other. absurd (cc), λ full. absurd (let all = full.1 in omega (arith, len, c.len.ensures.len)))
