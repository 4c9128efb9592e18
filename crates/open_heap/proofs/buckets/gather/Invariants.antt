use Rattle.std.proofs.Common.{ℕ, ◌≡◌, ◌≤◌, ◌+◌}
use Rattle.std.specs.Vec.{vec_len, vec_capacity}
use Rattle.open_heap.specs.inner.Buckets.{IsChain}
use Rattle.open_heap.proofs.Chains.{IsGathering}
use Rattle.open_heap.proofs.buckets.gather.Given as goal

abbrev pub invariant-walk : goal.invariant-walk
invariant-walk l = record {
  going : (start bucket : ℕ) → IsChain start l.later bucket l.end → IsGathering start l.later bucket l.initial.here.items l.here.items l.after;
  room : vec_len l.here + l.after ≤ vec_capacity l.here;
  capacity : vec_capacity l.here ≡ vec_capacity l.initial.here;
}

abbrev pub decreases-walk : goal.decreases-walk
decreases-walk l = l.after
