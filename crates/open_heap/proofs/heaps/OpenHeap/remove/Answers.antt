use Rattle.std.proofs.Common.{inr, sym, ap, ◌∙◌, arith}
use Rattle.std.specs.FinMap as map
use Rattle.open_heap.specs.declared.entries.Entry.{Entry}
use Rattle.open_heap.specs.Queue.{Queue}
use Rattle.open_heap.specs.inner.Buckets.{queue_of, IsLive}
use Rattle.open_heap.proofs.Lists.{each_taken, live_inside, some_of, none_left}
use Rattle.open_heap.proofs.Tables.{get-queue, queue-remove, remove_none, some_keys}
use Rattle.open_heap.proofs.heaps.OpenHeap.remove.Goals as goal

pub index_mut-requires : goal.index_mut-requires
index_mut-requires c =
    let table = c.self.inside.estimates in
    let known = some_of c.get.result (sym c.is_some.ensures ∙ c.if-is_some.true) in
    let entry : Entry = record { estimate = known.0; key = c.args.key } in
    let live : IsLive table.items entry = sym (get-queue table.items c.args.key)
    ∙ ap (λ (m : Queue). map.get m c.args.key) c.self.view_is ∙ sym c.get.ensures ∙ known.1 in
    let inside = live_inside table.items entry live in
    let size = table.ok.0 in
    omega (arith, inside, size)

pub overflow_sub-self : goal.overflow_sub-self
overflow_sub-self c =
    let table = c.self.inside.estimates.items in
    let known = some_of c.get.result (sym c.is_some.ensures ∙ c.if-is_some.true) in
    let found = ap (λ (m : Queue). map.get m c.args.key) c.self.view_is ∙ sym c.get.ensures ∙ known.1 in
    let some = some_keys (queue_of table) c.args.key known.0 found in
    let counted = c.self.invariant.counted in
    omega (arith, some, counted)

pub invariant_of-self : goal.invariant_of-self
invariant_of-self c =
    let b = c.self.inside.buckets in
    let table = c.self.inside.estimates.items in
    let known = some_of c.get.result (sym c.is_some.ensures ∙ c.if-is_some.true) in
    let entry : Entry = record { estimate = known.0; key = c.args.key } in
    let live : IsLive table entry = sym (get-queue table c.args.key)
    ∙ ap (λ (m : Queue). map.get m c.args.key) c.self.view_is ∙ sym c.get.ensures ∙ known.1 in
    each_taken b.start b.reached b.later.items b.here.items b.start b.reached b.later.items b.here.items c.self.inside.count table entry
    c.self.invariant (λ other is held. inr held) (live_inside table entry live) live

pub returns-then-is_some : goal.returns-then-is_some
returns-then-is_some c =
    let table = c.self.inside.estimates.items in
    let known = some_of c.get.result (sym c.is_some.ensures ∙ c.if-is_some.true) in
    let entry : Entry = record { estimate = known.0; key = c.args.key } in
    let live : IsLive table entry = sym (get-queue table c.args.key)
    ∙ ap (λ (m : Queue). map.get m c.args.key) c.self.view_is ∙ sym c.get.ensures ∙ known.1 in
    queue-remove table c.args.key (live_inside table entry live)
    ∙ ap (λ (m : Queue). map.remove m c.args.key) c.self.view_is

pub returns-else-is_some : goal.returns-else-is_some
returns-else-is_some c =
    remove_none c.args.self.now c.args.key
    (sym c.get.ensures ∙ none_left c.get.result (sym c.is_some.ensures ∙ c.if-is_some.false))
