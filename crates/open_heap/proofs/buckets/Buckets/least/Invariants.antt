use Rattle.std.proofs.Common.{◌-◌, length}
use Rattle.open_heap.specs.declared.entries.Entry.{Entry}
use Rattle.open_heap.specs.inner.Buckets.{IsLive, IsHeld}
use Rattle.open_heap.proofs.buckets.Buckets.least.Given as goal

abbrev pub invariant-take : goal.invariant-take
invariant-take l = (other : Entry) → IsLive l.estimates other
    → IsHeld l.initial.self.start l.initial.self.reached l.initial.self.later.items l.initial.self.here.items other
    → IsHeld l.self.start l.self.reached l.self.later.items l.self.here.items other

abbrev pub decreases-take : goal.decreases-take
decreases-take l = length l.self.heads.items - l.self.reached
