use Rattle.std.proofs.Common.{◌≡◌, ◌<◌, ◌≤◌, ℕ, length, get_or}
use Rattle.std.specs.Prelude.{vec_capacity}
use Rattle.reach_sets.proofs.forests.apart.Given as goal

abbrev pub invariant-loop-place : goal.invariant-loop-place
invariant-loop-place l = record {
  made : length l.parents.items ≡ l.place;
  room : l.count ≤ vec_capacity l.parents;
  each : (k : ℕ) → k < l.place → get_or l.parents.items k 0 ≡ k;
}
