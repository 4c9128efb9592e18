use Rattle.std.proofs.Common.{◌<◌, length, get_or, refl, arith}
use Rattle.reach_sets.specs.inner.Forests.{HasParent}
use Rattle.reach_sets.proofs.ForestLemmas.{keeps_self, climbed}
use Rattle.reach_sets.proofs.ChainLemmas.{chained_self}
use Rattle.reach_sets.proofs.forests.root_of.Goals as goal

pub climb-init : goal.climb-init
climb-init c = record {
  below = omega arith;
  kept = keeps_self c.args.parents.now c.requires.forest;
  found = chained_self (HasParent c.args.parents.now) c.args.place;
}

pub climb-preserved : goal.climb-preserved
climb-preserved c =
    let p = c.climb.parents in let x = c.climb.at in let up = get_or p x 0 in
    let inside : x < length p = omega (arith, c.climb.invariant.below, c.climb.auto.parents, c.requires.inside) in
    let step = climbed c.args.parents.now p c.args.place x up (get_or p up 0) c.climb.invariant.kept c.climb.invariant.found inside refl c.climb-test.true refl in
    record {
      below = omega (arith, step.1.1, c.climb.invariant.below);
      kept = step.0;
      found = step.1.0;
    }
