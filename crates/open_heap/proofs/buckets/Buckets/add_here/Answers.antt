use Rattle.std.proofs.Common.{List, refl, inl, sym, subst}
use Rattle.std.specs.Vec.{vec_capacity}
use Rattle.std.specs.List.{Contains}
use Rattle.std.proofs.lemmas.List.Elements.{Contains-push}
use Rattle.open_heap.specs.declared.entries.Entry.{Entry}
use Rattle.open_heap.specs.inner.Buckets.{AreBuckets, IsHeld}
use Rattle.open_heap.proofs.Chains.{buckets_pushed, held_pushed}
use Rattle.open_heap.proofs.buckets.Buckets.add_here.Goals as goal

pub invariant_of-self : goal.invariant_of-self
invariant_of-self c =
    let b = c.args.self.now in
    record {
      sound = subst (λ (h : List Entry). AreBuckets b.start b.reached b.heads.items b.later.items h (vec_capacity c.push_reserved.new.self))
          (sym c.push_reserved.ensures.items)
          (buckets_pushed b.start b.reached b.heads.items b.later.items b.here.items _ _ c.args.entry b.sound c.requires (c.if-ends_here.ensures.last refl)
          c.push_reserved.ensures.capacity);
    }

pub returns-then-ends_here-clause-added : goal.returns-then-ends_here-clause-added
returns-then-ends_here-clause-added c =
    inl (subst (λ (h : List Entry). Contains h c.args.entry) (sym c.push_reserved.ensures.items)
    (Contains-push c.args.self.now.here.items c.args.entry))

pub returns-then-ends_here-clause-kept : goal.returns-then-ends_here-clause-kept
returns-then-ends_here-clause-kept c = λ other held.
    let b = c.args.self.now in
    subst (λ (h : List Entry). IsHeld b.start b.reached b.later.items h other) (sym c.push_reserved.ensures.items)
    (held_pushed b.start b.reached b.later.items b.here.items c.args.entry other held)
