use Rattle.std.proofs.Common.{take}
use Rattle.reach_sets.specs.RegionOrder.{place}
use Rattle.reach_sets.specs.inner.Forests.{IsForest}
use Rattle.reach_sets.proofs.LinkLemmas.{ByLinks, HoldLinks}
use Rattle.reach_sets.proofs.RowLemmas.{region_from}
use Rattle.reach_sets.proofs.forests.join_links.Given as goal

abbrev pub invariant-loop-link : goal.invariant-loop-link
invariant-loop-link l = record {
  forest : IsForest l.parents;
  only : ByLinks (region_from 0 l.offsets) l.links l.parents;
  all : HoldLinks (place l.offsets) (take l.link-index l.links) l.parents;
}
