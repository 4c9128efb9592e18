use Rattle.open_heap.proofs.Chains.{held_still, least_held, none_held}
use Rattle.open_heap.proofs.buckets.Buckets.least.Goals as goal

pub returns-in-Some-clause-first : goal.returns-in-Some-clause-first
returns-in-Some-clause-first c = λ other live held.
    let b = c.take.self in
    let now = c.last_live.new.self in
    let told = c.last_live.ensures in
    least_held now.start now.reached now.heads.items now.later.items now.here.items _ now.sound c.in-Some.entry c.in-Some.ensures.last other
    (held_still b.start b.reached b.later.items b.here.items now.start now.reached now.later.items now.here.items other told.start told.reached
    told.later (told.kept other live) (c.take.invariant other live held))

pub returns-in_default-next_bucket-clause-none : goal.returns-in_default-next_bucket-clause-none
returns-in_default-next_bucket-clause-none c = λ other live held.
    let b = c.take.self in
    let now = c.last_live.new.self in
    let told = c.last_live.ensures in
    none_held now.start now.reached now.heads.items now.later.items now.here.items _ now.sound c.in_default.ensures.none
    c.in_default-next_bucket.ensures.none other
    (held_still b.start b.reached b.later.items b.here.items now.start now.reached now.later.items now.here.items other told.start told.reached
    told.later (told.kept other live) (c.take.invariant other live held))
