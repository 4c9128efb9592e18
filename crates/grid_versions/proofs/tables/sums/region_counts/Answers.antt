use Rattle.std.proofs.Common.{length, ◌≤◌, ◌++◌, ◌∷◌, []}
use Rattle.std.proofs.lemmas.List.Elements.{All-push, All-same}
use Rattle.chunk_regions.specs.Labelling.{Labelling}
use Rattle.grid_versions.proofs.BuildLemmas.{map_next}
use Rattle.grid_versions.proofs.tables.sums.region_counts.Goals as goal

pub loop-at-preserved : goal.loop-at-preserved
loop-at-preserved c =
    let items = c.in_ok-push.ensures.items in
    record {
      value = map_next (λ (one : Labelling). length one.firsts) c.args.labels.now c.loop-at.at c.at.result.now c.count.result
          c.loop-at.counts.items c.push.new.self.items c.at.ensures c.count.ensures.value c.loop-at.invariant.value items;
      most = All-same (λ count. count ≤ 9216) c.push.new.self.items (c.loop-at.counts.items ++ c.count.result ∷ []) items
          (All-push (λ count. count ≤ 9216) c.loop-at.counts.items c.count.result c.loop-at.invariant.most c.count.ensures.most);
    }
