use Rattle.std.proofs.Common.{◌≡◌, ◌≤◌, ◌<◌, ℕ, length, take, get_or}
use Rattle.reach_sets.specs.inner.Forests.{AreRootNumbers}
use Rattle.reach_sets.proofs.forests.number_trees.Given as goal

abbrev pub invariant-loop-place : goal.invariant-loop-place
invariant-loop-place l = record {
  few : l.count ≤ l.place;
  numbered : AreRootNumbers l.initial.places (take l.place l.places) l.count;
  left : (k : ℕ) → l.place ≤ k → k < length l.places → get_or l.places k 0 ≡ get_or l.initial.places k 0;
}
