use Rattle.std.proofs.Common.{ℕ, ◌≤◌, List, Option, sym, ap, subst, ◌∙◌}
use Rattle.std.proofs.lemmas.Option.{IfSome_then}
use Rattle.open_heap.specs.declared.entries.Entry.{Entry}
use Rattle.open_heap.specs.Queue.{Queue, IsLeast}
use Rattle.open_heap.specs.inner.Buckets.{queue_of, IsLive, IsHeld, HasEach}
use Rattle.open_heap.proofs.Lists.{least_of, none_of, if_both, if_none_then}
use Rattle.open_heap.proofs.heaps.OpenHeap.peek_least.Goals as goal

pub returns-clause-least : goal.returns-clause-least
returns-clause-least c =
    let b = c.self.inside.buckets in
    let table = c.deref.result.now in
    let each : HasEach c.self.inside.count b.start b.reached b.later.items b.here.items table =
    subst (λ (t : List (Option ℕ)). HasEach c.self.inside.count b.start b.reached b.later.items b.here.items t) (sym c.deref.ensures.value)
    c.self.invariant in
    IfSome_then c.least.result (if_both c.least.result (IsLive table) (λ (entry : Entry). (other : Entry) → IsLive table other
    → IsHeld b.start b.reached b.later.items b.here.items other → entry.estimate ≤ other.estimate) c.least.ensures.live c.least.ensures.first)
    (λ entry both. subst (λ (m : Queue). IsLeast m entry) (ap queue_of c.deref.ensures.value ∙ c.self.view_is)
    (least_of b.start b.reached b.later.items b.here.items b.start b.reached b.later.items b.here.items c.self.inside.count table entry each
    both.0 both.1))

pub returns-clause-none : goal.returns-clause-none
returns-clause-none c =
    let b = c.self.inside.buckets in
    let table = c.deref.result.now in
    let each : HasEach c.self.inside.count b.start b.reached b.later.items b.here.items table =
    subst (λ (t : List (Option ℕ)). HasEach c.self.inside.count b.start b.reached b.later.items b.here.items t) (sym c.deref.ensures.value)
    c.self.invariant in
    if_none_then c.least.result ((other : Entry) → IsLive table other → IsHeld b.start b.reached b.later.items b.here.items other → ⊥) _
    c.least.ensures.none (λ none.
    sym (ap queue_of c.deref.ensures.value ∙ c.self.view_is)
    ∙ none_of b.start b.reached b.later.items b.here.items b.start b.reached b.later.items b.here.items c.self.inside.count table each none)
