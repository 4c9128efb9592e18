use Rattle.std.proofs.Common.{◌≡◌, length, Contains}
use Rattle.open_heap.specs.declared.entries.Entry.{Entry}
use Rattle.open_heap.specs.inner.Buckets.{IsLive}
use Rattle.open_heap.proofs.buckets.Buckets.last_live.Given as goal

abbrev pub invariant-stale : goal.invariant-stale
invariant-stale l = record {
  kept : (other : Entry) → IsLive l.estimates other → Contains l.initial.self.here.items other → Contains l.self.here.items other;
  reached : l.self.reached ≡ l.initial.self.reached;
  start : l.self.start ≡ l.initial.self.start;
  later : l.self.later.items ≡ l.initial.self.later.items;
  heads : l.self.heads.items ≡ l.initial.self.heads.items;
}

abbrev pub decreases-stale : goal.decreases-stale
decreases-stale l = length l.self.here.items
