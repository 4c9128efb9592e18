use Rattle.std.proofs.Common.{◌≡◌, ◌≤◌, map, take, length}
use Rattle.std.specs.Prelude.{All}
use Rattle.grid_versions.proofs.tables.sums.region_counts.Given as goal

abbrev pub invariant-loop-at : goal.invariant-loop-at
invariant-loop-at l = record {
  value : l.counts.items ≡ map (λ one. length one.firsts) (take l.at l.labels);
  most : All (λ count. count ≤ 9216) l.counts.items;
}
