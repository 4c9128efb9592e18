use Rattle.std.proofs.Common.{◌≡◌, ◌≤◌, length, map, take}
use Rattle.std.specs.Prelude.{vec_capacity}
use Rattle.path_workers.specs.inner.Ranking.{ranked_job}
use Rattle.path_workers.proofs.ranking.numbers_of.Given as goal

abbrev pub invariant-loop-one : goal.invariant-loop-one
invariant-loop-one l = record {
  count : length l.order.items ≡ l.one-index;
  room : length l.ranked ≤ vec_capacity l.order;
  same : l.order.items ≡ map ranked_job (take l.one-index l.ranked);
}
