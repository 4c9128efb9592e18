use Rattle.std.proofs.Common.{◌≤◌}
use Rattle.reach_sets.specs.inner.Forests.{AreInOneTree, KeepsTrees}
use Rattle.reach_sets.proofs.forests.root_of.Given as goal

abbrev pub invariant-climb : goal.invariant-climb
invariant-climb l = record {
  below : l.at ≤ l.fn.place;
  kept : KeepsTrees l.initial.parents l.parents;
  found : AreInOneTree l.parents l.fn.place l.at;
}

abbrev pub decreases-climb : goal.decreases-climb
decreases-climb l = l.at
