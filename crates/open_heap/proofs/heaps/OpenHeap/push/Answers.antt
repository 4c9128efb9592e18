use Rattle.std.proofs.Common.{◌≡◌, Some, None, set, ap, ◌∙◌, arith}
use Rattle.std.specs.FinMap as map
use Rattle.std.proofs.lemmas.List.{length-set}
use Rattle.open_heap.specs.declared.entries.Entry.{Entry}
use Rattle.open_heap.specs.Queue.{Queue}
use Rattle.open_heap.specs.inner.Buckets.{queue_of, HasEach}
use Rattle.open_heap.proofs.Lists.{each_same, each_pushed, each_kept, on_err_from}
use Rattle.open_heap.proofs.Tables.{same_queue, queue-insert, few_keys}
use Rattle.open_heap.proofs.heaps.OpenHeap.push.Goals as goal

pub invariant_of-self : goal.invariant_of-self
invariant_of-self c =
    let b = c.self.inside.buckets in
    each_same b.start b.reached b.later.items b.here.items b.start b.reached b.later.items b.here.items c.self.inside.count
    c.self.inside.estimates.items c.make_room.new.estimates.items c.make_room.ensures.same c.self.invariant

pub returns-in_err-make_room-clause-kept : goal.returns-in_err-make_room-clause-kept
returns-in_err-make_room-clause-kept c =
    on_err_from c.from_residual.result _
    (same_queue c.self.inside.estimates.items c.make_room.new.estimates.items c.make_room.ensures.same ∙ c.self.view_is)

pub invariant_of-self-in_err-add : goal.invariant_of-self-in_err-add
invariant_of-self-in_err-add c =
    let b = c.self.inside.buckets in
    let a = c.add.new.self in
    let table = c.make_room.new.estimates.items in
    let grown : HasEach c.self.inside.count b.start b.reached b.later.items b.here.items table =
    each_same b.start b.reached b.later.items b.here.items b.start b.reached b.later.items b.here.items c.self.inside.count
    c.self.inside.estimates.items table c.make_room.ensures.same c.self.invariant in
    each_kept b.start b.reached b.later.items b.here.items a.start a.reached a.later.items a.here.items c.self.inside.count table grown
    (λ other live held. c.add.ensures.kept other held)

pub returns-in_err-add-clause-kept : goal.returns-in_err-add-clause-kept
returns-in_err-add-clause-kept c =
    on_err_from c.from_residual-in_err-add.result _
    (same_queue c.self.inside.estimates.items c.make_room.new.estimates.items c.make_room.ensures.same ∙ c.self.view_is)

pub invariant_of-self-2 : goal.invariant_of-self-2
invariant_of-self-2 c =
    let b = c.self.inside.buckets in
    let a = c.add.new.self in
    let table = c.make_room.new.estimates.items in
    let entry : Entry = record { estimate = c.args.estimate; key = c.args.key } in
    let grown : HasEach c.self.inside.count b.start b.reached b.later.items b.here.items table =
    each_same b.start b.reached b.later.items b.here.items b.start b.reached b.later.items b.here.items c.self.inside.count
    c.self.inside.estimates.items table c.make_room.ensures.same c.self.invariant in
    let none : map.get (queue_of table) c.args.key ≡ None =
    ap (λ (m : Queue). map.get m c.args.key)
    (same_queue c.self.inside.estimates.items table c.make_room.ensures.same ∙ c.self.view_is) ∙ c.requires in
    each_pushed b.start b.reached b.later.items b.here.items a.start a.reached a.later.items a.here.items c.self.inside.count table entry
    grown c.add.ensures.kept c.in_ok-add.ensures.added c.in_ok-make_room.ensures.key none

pub overflow_add-self : goal.overflow_add-self
overflow_add-self c =
    let b = c.self.inside.buckets in
    let a = c.add.new.self in
    let table = c.make_room.new.estimates.items in
    let entry : Entry = record { estimate = c.args.estimate; key = c.args.key } in
    let grown : HasEach c.self.inside.count b.start b.reached b.later.items b.here.items table =
    each_same b.start b.reached b.later.items b.here.items b.start b.reached b.later.items b.here.items c.self.inside.count
    c.self.inside.estimates.items table c.make_room.ensures.same c.self.invariant in
    let none : map.get (queue_of table) c.args.key ≡ None =
    ap (λ (m : Queue). map.get m c.args.key)
    (same_queue c.self.inside.estimates.items table c.make_room.ensures.same ∙ c.self.view_is) ∙ c.requires in
    let each = each_pushed b.start b.reached b.later.items b.here.items a.start a.reached a.later.items a.here.items c.self.inside.count
    table entry grown c.add.ensures.kept c.in_ok-add.ensures.added c.in_ok-make_room.ensures.key none in
    let counted = each.counted in
    let most = few_keys (set table c.args.key (Some c.args.estimate)) in
    let size = length-set table c.args.key (Some c.args.estimate) in
    let few = c.make_room.ensures.few in
    omega (arith, counted, most, size, few)

pub returns-clause-added : goal.returns-clause-added
returns-clause-added c =
    let table = c.make_room.new.estimates.items in
    queue-insert table c.args.key c.args.estimate c.in_ok-make_room.ensures.key
    ∙ ap (λ (m : Queue). map.insert m c.args.key c.args.estimate)
    (same_queue c.self.inside.estimates.items table c.make_room.ensures.same ∙ c.self.view_is)
