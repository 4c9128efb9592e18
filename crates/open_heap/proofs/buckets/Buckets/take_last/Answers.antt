use Rattle.open_heap.proofs.Chains.{buckets_popped, held_popped}
use Rattle.open_heap.proofs.buckets.Buckets.take_last.Goals as goal

pub invariant_of-self : goal.invariant_of-self
invariant_of-self c =
    let b = c.args.self.now in
    record {
      sound = buckets_popped b.start b.reached b.heads.items b.later.items b.here.items c.pop.new.self.items c.pop.result _ _
          b.sound c.pop.ensures.items c.pop.ensures.capacity;
    }

pub returns : goal.returns
returns c =
    let b = c.args.self.now in
    record {
      kept = λ last other known held. held_popped b.start b.reached b.later.items b.here.items c.pop.new.self.items c.pop.result
          last other c.pop.ensures.items known held;
    }
