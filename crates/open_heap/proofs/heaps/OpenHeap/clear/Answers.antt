use Rattle.std.proofs.Common.{ap, ◌∙◌}
use Rattle.open_heap.specs.inner.Buckets.{queue_of}
use Rattle.open_heap.proofs.Lists.{each_none}
use Rattle.open_heap.proofs.Tables.{empty_table}
use Rattle.open_heap.proofs.heaps.OpenHeap.clear.Goals as goal

pub invariant_of-self : goal.invariant_of-self
invariant_of-self c =
    let new = c.restart.new.self in
    each_none new.start new.reached new.later.items new.here.items c.clear.new.self.items c.clear.ensures.items

pub returns : goal.returns
returns c = ap queue_of c.clear.ensures.items ∙ empty_table
