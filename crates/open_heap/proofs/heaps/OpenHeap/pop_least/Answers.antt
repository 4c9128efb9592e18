use Rattle.std.proofs.Common.{ℕ, List, Option, sym, ap, subst, ◌∙◌, arith}
use Rattle.std.specs.FinMap as map
use Rattle.open_heap.specs.Queue.{Queue, IsLeast}
use Rattle.open_heap.specs.inner.Buckets.{queue_of, IsLive}
use Rattle.open_heap.proofs.Lists.{each_taken, least_of, none_of, live_inside}
use Rattle.open_heap.proofs.Tables.{get-queue, queue-remove, some_keys}
use Rattle.open_heap.proofs.heaps.OpenHeap.pop_least.Goals as goal

pub index_mut-requires : goal.index_mut-requires
index_mut-requires c =
    let table = c.self.inside.estimates in
    let entry = c.in-Some.entry in
    let live : IsLive table.items entry =
    subst (λ (t : List (Option ℕ)). IsLive t entry) c.deref.ensures.value c.in-Some.ensures.live in
    let inside = live_inside table.items entry live in
    let size = table.ok.0 in
    omega (arith, inside, size)

pub overflow_sub-self : goal.overflow_sub-self
overflow_sub-self c =
    let table = c.self.inside.estimates.items in
    let entry = c.in-Some.entry in
    let live : IsLive table entry = subst (λ (t : List (Option ℕ)). IsLive t entry) c.deref.ensures.value c.in-Some.ensures.live in
    let some = some_keys (queue_of table) entry.key entry.estimate (get-queue table entry.key ∙ live) in
    let counted = c.self.invariant.counted in
    omega (arith, some, counted)

pub invariant_of-self-2 : goal.invariant_of-self-2
invariant_of-self-2 c =
    let b = c.self.inside.buckets in
    let a = c.take_last.new.self in
    let table = c.self.inside.estimates.items in
    let entry = c.in-Some.entry in
    let live : IsLive table entry = subst (λ (t : List (Option ℕ)). IsLive t entry) c.deref.ensures.value c.in-Some.ensures.live in
    each_taken b.start b.reached b.later.items b.here.items a.start a.reached a.later.items a.here.items c.self.inside.count table entry
    c.self.invariant (λ other is held. c.take_last.ensures.kept entry other c.in-Some.ensures.last (c.least.ensures.kept other
    (subst (λ (t : List (Option ℕ)). IsLive t other) (sym c.deref.ensures.value) is) held)) (live_inside table entry live) live

pub returns-clause-least : goal.returns-clause-least
returns-clause-least c =
    let b = c.self.inside.buckets in
    let table = c.self.inside.estimates.items in
    let entry = c.in-Some.entry in
    let live : IsLive table entry = subst (λ (t : List (Option ℕ)). IsLive t entry) c.deref.ensures.value c.in-Some.ensures.live in
    subst (λ (m : Queue). IsLeast m entry) c.self.view_is
    (least_of b.start b.reached b.later.items b.here.items b.start b.reached b.later.items b.here.items c.self.inside.count table entry
    c.self.invariant live (λ other is held. c.in-Some.ensures.first other
    (subst (λ (t : List (Option ℕ)). IsLive t other) (sym c.deref.ensures.value) is) held))

pub returns-clause-rest : goal.returns-clause-rest
returns-clause-rest c =
    let table = c.self.inside.estimates.items in
    let entry = c.in-Some.entry in
    let live : IsLive table entry = subst (λ (t : List (Option ℕ)). IsLive t entry) c.deref.ensures.value c.in-Some.ensures.live in
    queue-remove table entry.key (live_inside table entry live) ∙ ap (λ (m : Queue). map.remove m entry.key) c.self.view_is

pub returns-in_default-clause-none : goal.returns-in_default-clause-none
returns-in_default-clause-none c =
    let b = c.self.inside.buckets in
    let table = c.self.inside.estimates.items in
    sym c.self.view_is
    ∙ none_of b.start b.reached b.later.items b.here.items b.start b.reached b.later.items b.here.items c.self.inside.count table
    c.self.invariant (λ other is held. c.in_default.ensures.none other
    (subst (λ (t : List (Option ℕ)). IsLive t other) (sym c.deref.ensures.value) is) held)

pub returns-in_default-clause-kept : goal.returns-in_default-clause-kept
returns-in_default-clause-kept c =
    let b = c.self.inside.buckets in
    let table = c.self.inside.estimates.items in
    none_of b.start b.reached b.later.items b.here.items b.start b.reached b.later.items b.here.items c.self.inside.count table
    c.self.invariant (λ other is held. c.in_default.ensures.none other
    (subst (λ (t : List (Option ℕ)). IsLive t other) (sym c.deref.ensures.value) is) held)
