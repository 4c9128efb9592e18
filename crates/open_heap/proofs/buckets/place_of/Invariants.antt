use Rattle.std.proofs.Common.{ℕ, ◌≤◌, ◌<◌, ◌-◌, length, slice_index_or}
use Rattle.open_heap.specs.declared.entries.Entry.{Entry}
use Rattle.open_heap.proofs.buckets.place_of.Given as goal

abbrev pub invariant-halve : goal.invariant-halve
invariant-halve l = record {
  inside : l.most ≤ length l.entries;
  order : l.least ≤ l.most;
  before : (place : ℕ) (d : Entry) → place < l.least → l.estimate ≤ (slice_index_or l.entries place d).estimate;
  behind : (place : ℕ) (d : Entry) → l.most ≤ place → place < length l.entries → (slice_index_or l.entries place d).estimate ≤ l.estimate;
}

abbrev pub decreases-halve : goal.decreases-halve
decreases-halve l = l.most - l.least
