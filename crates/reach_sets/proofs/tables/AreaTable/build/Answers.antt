use Rattle.std.proofs.Common.{◌≡◌, ℕ, List, sym, subst, ◌∙◌}
use Rattle.std.specs.Vec.{with_items}
use Rattle.std.proofs.lemmas.List.{with_items_is}
use Rattle.reach_sets.specs.AreaNumbers.{AreAreas}
use Rattle.reach_sets.proofs.AreaLemmas.{built}
use Rattle.reach_sets.proofs.tables.AreaTable.build.Goals as goal

pub returns : goal.returns
returns c =
    let numbers = c.number_trees-count.new.places in
    let regions = c.in_ok-offsets.offsets in
    let kept : (with_items c.in_ok-areas-2.areas numbers).items ≡ numbers =
    with_items_is c.in_ok-areas-2.areas numbers (c.number_trees-count.auto.places ∙ c.deref_mut.ensures.len) in
    record {
      areas = subst (λ (ns : List ℕ). AreAreas c.args.regions.now c.args.links.now (record { regions = regions; areas = ns; count = c.number_trees-count.result })) (sym kept)
          (built c.args.regions.now regions c.args.links.now c.as_slice-2.result.now c.in_ok-areas-2.areas.items c.deref_mut.result.now numbers c.number_trees-count.result c.in_ok-offsets.ensures c.as_slice-2.ensures c.deref_mut.ensures.value c.in_ok-areas-2.ensures c.number_trees-count.ensures c.number_trees-count.auto.places);
    }
