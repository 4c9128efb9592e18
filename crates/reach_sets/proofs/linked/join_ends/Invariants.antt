use Rattle.std.proofs.Common.{take, sum}
use Rattle.std.specs.Prelude.{All}
use Rattle.reach_sets.specs.RegionOrder.{place}
use Rattle.reach_sets.specs.inner.Forests.{IsForest}
use Rattle.reach_sets.specs.inner.EndMarks.{marked_before}
use Rattle.reach_sets.proofs.LinkLemmas.{ByLinks, HoldLinks}
use Rattle.reach_sets.proofs.MarkLemmas.{nth_marked}
use Rattle.reach_sets.proofs.RowLemmas.{region_from}
use Rattle.reach_sets.proofs.EndLemmas.{IsNoted}
use Rattle.reach_sets.proofs.linked.join_ends.Given as goal

abbrev pub invariant-loop-link : goal.invariant-loop-link
invariant-loop-link l = record {
  forest : IsForest l.parents;
  noted : All (IsNoted l.offsets l.marks l.places) (take l.link-index l.links);
  only : ByLinks (λ i. region_from 0 l.offsets (nth_marked l.marks (sum l.offsets) i)) l.links l.parents;
  all : HoldLinks (λ id. marked_before l.marks (place l.offsets id)) (take l.link-index l.links) l.parents;
}
