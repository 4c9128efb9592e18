use Rattle.std.proofs.Common.{◌≡◌, ◌<◌, ℕ, length, get_or}
use Rattle.reach_sets.specs.inner.Linked.{children_before}
use Rattle.reach_sets.proofs.linked.count_children.Given as goal

abbrev pub invariant-loop-place : goal.invariant-loop-place
invariant-loop-place l = record {
  each : length l.joined.items ≡ l.place;
  now : l.children ≡ children_before l.parents l.place;
  counts : (k : ℕ) → k < length l.joined.items → get_or l.joined.items k 0 ≡ children_before l.parents k;
}
