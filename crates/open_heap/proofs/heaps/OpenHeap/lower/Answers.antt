use Rattle.std.proofs.Common.{◌≡◌, ◌≤◌, Some, ap, sym, ◌∙◌, arith}
use Rattle.std.specs.FinMap as map
use Rattle.open_heap.specs.declared.entries.Entry.{Entry}
use Rattle.open_heap.specs.Queue.{Queue}
use Rattle.open_heap.specs.inner.Buckets.{queue_of}
use Rattle.open_heap.proofs.Lists.{each_lowered, known_of, live_inside}
use Rattle.open_heap.proofs.Tables.{get-queue, queue-insert}
use Rattle.open_heap.proofs.heaps.OpenHeap.lower.Goals as goal

pub index_mut-requires : goal.index_mut-requires
index_mut-requires c =
    let table = c.self.inside.estimates in
    let known = known_of (map.get c.args.self.now c.args.key) (λ known. c.args.estimate ≤ known) c.requires in
    let some : map.get (queue_of table.items) c.args.key ≡ Some known.0 =
    ap (λ (m : Queue). map.get m c.args.key) c.self.view_is ∙ known.1 in
    let was : Entry = record { estimate = known.0; key = c.args.key } in
    let inside = live_inside table.items was (sym (get-queue table.items c.args.key) ∙ some) in
    let size = table.ok.0 in
    omega (arith, inside, size)

pub invariant_of-self-2 : goal.invariant_of-self-2
invariant_of-self-2 c =
    let b = c.self.inside.buckets in
    let a = c.add.new.self in
    let table = c.self.inside.estimates.items in
    let entry : Entry = record { estimate = c.args.estimate; key = c.args.key } in
    let known = known_of (map.get c.args.self.now c.args.key) (λ known. c.args.estimate ≤ known) c.requires in
    let some : map.get (queue_of table) c.args.key ≡ Some known.0 =
    ap (λ (m : Queue). map.get m c.args.key) c.self.view_is ∙ known.1 in
    let was : Entry = record { estimate = known.0; key = c.args.key } in
    let inside = live_inside table was (sym (get-queue table c.args.key) ∙ some) in
    each_lowered b.start b.reached b.later.items b.here.items a.start a.reached a.later.items a.here.items c.self.inside.count table entry
    known.0 c.self.invariant c.add.ensures.kept c.in_ok-add.ensures.added inside some

pub returns-clause-lowered : goal.returns-clause-lowered
returns-clause-lowered c =
    let table = c.self.inside.estimates.items in
    let known = known_of (map.get c.args.self.now c.args.key) (λ known. c.args.estimate ≤ known) c.requires in
    let some : map.get (queue_of table) c.args.key ≡ Some known.0 =
    ap (λ (m : Queue). map.get m c.args.key) c.self.view_is ∙ known.1 in
    let was : Entry = record { estimate = known.0; key = c.args.key } in
    let inside = live_inside table was (sym (get-queue table c.args.key) ∙ some) in
    queue-insert table c.args.key c.args.estimate inside
    ∙ ap (λ (m : Queue). map.insert m c.args.key c.args.estimate) c.self.view_is
