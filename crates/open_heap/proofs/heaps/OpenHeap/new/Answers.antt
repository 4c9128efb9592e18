use Rattle.std.proofs.Common.{ap, ◌∙◌}
use Rattle.open_heap.specs.inner.Buckets.{queue_of}
use Rattle.open_heap.proofs.Lists.{each_none}
use Rattle.open_heap.proofs.Tables.{empty_table}
use Rattle.open_heap.proofs.heaps.OpenHeap.new.Goals as goal

pub invariant_of-result : goal.invariant_of-result
invariant_of-result c =
    let new = c.new.result in
    each_none new.start new.reached new.later.items new.here.items c.new-2.result.items c.new-2.ensures.items

pub returns : goal.returns
returns c = ap queue_of c.new-2.ensures.items ∙ empty_table
