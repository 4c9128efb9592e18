use Rattle.std.proofs.Common.{ℕ, ◌<◌, ◌≤◌, List, length, get_or, Contains, inl, sym, subst}
use Rattle.std.specs.Prelude.{is_ok}
use Rattle.open_heap.specs.declared.entries.Entry.{Entry}
use Rattle.open_heap.specs.inner.Buckets.{IsHeld}
use Rattle.open_heap.proofs.Chains.{buckets_maybe_inserted, held_inserted, inserted_there}
use Rattle.open_heap.proofs.buckets.Buckets.insert_here.Goals as goal

pub invariant_of-self : goal.invariant_of-self
invariant_of-self c =
    let b = c.args.self.now in
    let entry : Entry = c.args.entry in
    let place : ℕ = c.place_of-place.result in
    let here = c.deref.ensures.value in
    record {
      sound = buckets_maybe_inserted (is_ok c.insert.result) b.start b.reached b.heads.items b.later.items b.here.items
          c.insert.new.self.items _ _ place entry b.sound c.requires
          (subst (λ (es : List Entry). place ≤ length es) here c.place_of-place.ensures.inside)
          (subst (λ (es : List Entry). (at : ℕ) (d : Entry) → at < place → entry.estimate ≤ (get_or es at d).estimate) here
          c.place_of-place.ensures.before)
          (subst (λ (es : List Entry). (at : ℕ) (d : Entry) → place ≤ at → at < length es
          → (get_or es at d).estimate ≤ entry.estimate) here c.place_of-place.ensures.behind)
          c.insert.ensures.capacity c.insert.ensures.items;
    }

pub returns-clause-added : goal.returns-clause-added
returns-clause-added c =
    inl (subst (λ (es : List Entry). Contains es c.args.entry) (sym c.in_ok-insert.ensures.items)
    (inserted_there c.args.self.now.here.items c.place_of-place.result c.args.entry))

pub returns-clause-kept : goal.returns-clause-kept
returns-clause-kept c = λ other held.
    let b = c.args.self.now in
    subst (λ (es : List Entry). IsHeld b.start b.reached b.later.items es other) (sym c.in_ok-insert.ensures.items)
    (held_inserted b.start b.reached b.later.items b.here.items c.place_of-place.result c.args.entry other held)

pub returns-in_err-insert-clause-kept : goal.returns-in_err-insert-clause-kept
returns-in_err-insert-clause-kept c = λ other held.
    let b = c.args.self.now in
    subst (λ (es : List Entry). IsHeld b.start b.reached b.later.items es other) (sym c.in_err-insert.ensures.items) held
