use Rattle.std.proofs.Common.{List, subst, get_or, arith}
use Rattle.std.proofs.lemmas.List.{take_all}
use Rattle.std.proofs.lemmas.List.Elements.{All-get_or}
use Rattle.reach_sets.specs.declared.regions.RegionId.{RegionId}
use Rattle.reach_sets.specs.RegionOrder.{IsRegion, place}
use Rattle.reach_sets.proofs.LinkLemmas.{HoldLinks, links_more, together}
use Rattle.reach_sets.proofs.RowLemmas.{region_from, region_from-place}
use Rattle.reach_sets.proofs.forests.join_links.Goals as goal

pub loop-link-preserved : goal.loop-link-preserved
loop-link-preserved c =
    let loop = c.loop-link in let regions = c.args.offsets.now in let links = c.args.links.now in
    let none : RegionId × RegionId = (record { chunk = 0; region = 0 }, record { chunk = 0; region = 0 }) in
    let Exists : RegionId × RegionId → Type 0 = λ link. IsRegion regions link.0 × IsRegion regions link.1 in
    let link = get_or links loop.link-index none in
    let exist : Exists link = All-get_or Exists links loop.link-index none c.loop-link-test.true c.requires.exist in
    let step = links_more (region_from 0 regions) (place regions) links loop.link-index none loop.parents c.join.new.parents c.place_of.result c.place_of-in-loop-link.result c.loop-link-test.true
    (region_from-place regions link.0 exist.0, region_from-place regions link.1 exist.1)
    loop.invariant.only loop.invariant.all c.place_of.ensures.place c.place_of-in-loop-link.ensures.place c.join.ensures in
    record { forest = c.join.ensures.forest; only = step.0; all = step.1 }

pub returns : goal.returns
returns c =
    let loop = c.loop-link in let links = c.args.links.now in
    let P : List (RegionId × RegionId) → Type 0 = λ read. HoldLinks (place c.args.offsets.now) read loop.parents in
    record {
      forest = loop.invariant.forest;
      each = omega (arith, loop.auto.parents, c.requires.each);
      together = together c.args.offsets.now links loop.parents loop.invariant.only (subst P (take_all loop.link-index links (omega arith)) loop.invariant.all);
    }
