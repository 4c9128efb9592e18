use Rattle.std.specs.List.Sorted.{IsStrictlySortedBy}
use Rattle.std.proofs.lemmas.List.Filters.{dedup_is}
use Rattle.std.proofs.lemmas.List.Kept.{Contains-dedup, Contains-from_dedup, IsStrictlySortedBy-dedup}
use Rattle.std.proofs.lemmas.List.Sorted.{Contains-permutation, IsPermutation-sym}
use Rattle.std.proofs.lemmas.Map.Keys.{Less-from_sorted}
use Rattle.region_edges.proofs.PairLemmas.{pair_cmp, pair_eq, pair_total, pair_equiv, pair_ties, pair_same, before_from_Less}
use Rattle.region_edges.proofs.borders.put_in_order.Goals as goal

pub returns-clause-rising : goal.returns-clause-rising
returns-clause-rising c = λ i j d less within.
    let is = dedup_is pair_eq _ _ c.dedup.ensures.filtered in
    let strict : IsStrictlySortedBy pair_cmp c.dedup.new.self.items = rw is (IsStrictlySortedBy-dedup pair_total pair_ties _ c.sort_unstable.ensures.sorted) in
    before_from_Less _ _ (Less-from_sorted pair_cmp _ i j d strict less within)

pub returns-clause-same : goal.returns-clause-same
returns-clause-same c = λ pair.
    let is = dedup_is pair_eq _ _ c.dedup.ensures.filtered in
    let moved = c.sort_unstable.ensures.permutation in (
      λ inside. Contains-permutation _ _ pair (IsPermutation-sym _ _ moved) (Contains-from_dedup pair_eq _ pair (rw is at inside)),
      λ inside. rw is (Contains-dedup pair_equiv pair_same _ pair (Contains-permutation _ _ pair moved inside)),
    )
