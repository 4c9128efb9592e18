use Rattle.std.proofs.Common.{ℕ, ◌≡◌, ◌+◌, ◌-◌, ◌≤◌, inl, inr, subst, arith}
use Rattle.grid_versions.specs.inner.Marks.{AreNextFrom}
use Rattle.grid_versions.proofs.PassedLemmas.{NoneIn, none_down, next_down}
use Rattle.grid_versions.proofs.relabelling.next_places.Goals as goal

pub places-init : goal.places-init
places-init c =
    let long = c.in_ok-next.ensures.len in
    record {
      low = omega arith;
      from = omega (arith, c.requires);
      none = λ k low high within. absurd (omega arith);
      next = record {
        each = omega (arith, long);
        after = λ place low within. absurd (omega arith);
        none = λ place k from low below within. absurd (omega arith);
      };
    }

pub places-preserved : goal.places-preserved
places-preserved c =
    let bits = c.args.bits.now in
    let some = c.places-test.true in
    let low = c.places.invariant.low in
    let past = c.places.invariant.from in
    let each = c.places.invariant.next.each in
    let place : ℕ = c.places.place - 1 in
    let there : c.places.place ≡ place + 1 = omega (arith, some) in
    let found = c.first_of-found.result in
    let which = c.first_of-found.ensures in
    let from : place ≤ found = elim which [
      | inl here ↦ omega arith
      | inr none ↦ let same = none.1 in omega (arith, past)
    ] in
    let none = none_down bits place found c.places.found which
    (subst (λ (k : ℕ). NoneIn bits k c.places.found) there c.places.invariant.none) in
    record {
      low = omega (arith, low);
      from = from;
      none = none;
      next = next_down bits c.places.next.items place found (omega (arith, some, low, each))
          (subst (λ (k : ℕ). AreNextFrom k bits c.places.next.items) there c.places.invariant.next) from none;
    }

pub returns : goal.returns
returns c =
    let none = c.places-test.false in
    let done : c.places.place ≡ 0 = omega (arith, none) in
    subst (λ (k : ℕ). AreNextFrom k c.args.bits.now c.places.next.items) done c.places.invariant.next
