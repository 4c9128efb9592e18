use Rattle.std.proofs.Common.{◌≡◌, length}
use Rattle.reach_sets.proofs.EndLemmas.{AreFirstAreas}
use Rattle.reach_sets.proofs.linked.number_ends.Given as goal

abbrev pub invariant-loop-place : goal.invariant-loop-place
invariant-loop-place l = record {
  each : length l.areas.items ≡ l.place;
  so_far : AreFirstAreas l.places l.parents l.areas.items;
}
