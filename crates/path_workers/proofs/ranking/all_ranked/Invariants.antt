use Rattle.std.proofs.Common.{◌≡◌, ◌<◌, ◌≤◌, length, map}
use Rattle.std.specs.Prelude.{vec_capacity}
use Rattle.nav_types.specs.Counting.{Lists}
use Rattle.path_workers.specs.inner.Ranking.{ranked_job}
use Rattle.path_workers.proofs.ranking.all_ranked.Given as goal

abbrev pub invariant-loop-request : goal.invariant-loop-request
invariant-loop-request l = record {
  number : l.job ≡ l.request-index;
  count : length l.ranked.items ≡ l.request-index;
  room : length l.jobs ≤ vec_capacity l.ranked;
  lists : Lists (λ job. job < l.request-index) (map ranked_job l.ranked.items);
}
