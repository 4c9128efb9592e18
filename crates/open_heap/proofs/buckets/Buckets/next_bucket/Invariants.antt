use Rattle.std.proofs.Common.{ℕ, ◌≡◌, ◌<◌, ◌≤◌, slice_index}
use Rattle.open_heap.proofs.buckets.Buckets.next_bucket.Given as goal

abbrev pub invariant-loop-bucket : goal.invariant-loop-bucket
invariant-loop-bucket l = (other : ℕ) → l.self.reached ≤ other → other < l.bucket → slice_index l.self.heads.items other ≡ 0
