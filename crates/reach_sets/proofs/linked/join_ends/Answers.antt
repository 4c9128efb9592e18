use Rattle.std.proofs.Common.{ℕ, ◌∙◌, ap, sum, List, get_or, subst, arith}
use Rattle.std.specs.Prelude.{All}
use Rattle.std.proofs.lemmas.List.{take_all}
use Rattle.std.proofs.lemmas.List.Elements.{All-get_or}
use Rattle.reach_sets.specs.declared.regions.RegionId.{RegionId}
use Rattle.reach_sets.specs.RegionOrder.{IsRegion, place}
use Rattle.reach_sets.specs.inner.EndMarks.{marked_before}
use Rattle.reach_sets.specs.inner.Linked.{HasMarks}
use Rattle.reach_sets.proofs.EndLemmas.{IsNoted, noted_more, places_noted}
use Rattle.reach_sets.proofs.LinkLemmas.{HoldLinks, links_more}
use Rattle.reach_sets.proofs.MarkLemmas.{nth_marked, nth_of}
use Rattle.reach_sets.proofs.RowLemmas.{region_from, region_from-place, place_inside}
use Rattle.reach_sets.proofs.SpreadLemmas.{spread_made}
use Rattle.reach_sets.proofs.linked.join_ends.Goals as goal

pub loop-link-preserved : goal.loop-link-preserved
loop-link-preserved c =
    let loop = c.loop-link in
    let regions = c.args.offsets.now in let links = c.args.links.now in let words = c.args.marks.now in
    let n = sum regions in
    let none : RegionId × RegionId = (record { chunk = 0; region = 0 }, record { chunk = 0; region = 0 }) in
    let Exists : RegionId × RegionId → Type 0 = λ link. IsRegion regions link.0 × IsRegion regions link.1 in
    let i = loop.link-index in let link = get_or links i none in
    let inside = c.loop-link-test.true in
    let exist : Exists link = All-get_or Exists links i none inside c.requires.exist in
    let marks = All-get_or (HasMarks regions words) links i none inside c.requires.ends.all in
    let at : ℕ → RegionId = λ k. region_from 0 regions (nth_marked words n k) in
    let of : RegionId → ℕ = λ id. marked_before words (place regions id) in
    let first = c.end_of-first in let second = c.end_of-second in
    let step = links_more at of links i none loop.parents c.join.new.parents first.result second.result inside (
      ap (region_from 0 regions) (nth_of words n (place regions link.0) (place_inside regions link.0 exist.0) marks.0) ∙ region_from-place regions link.0 exist.0,
      ap (region_from 0 regions) (nth_of words n (place regions link.1) (place_inside regions link.1 exist.1) marks.1) ∙ region_from-place regions link.1 exist.1,
    )
    loop.invariant.only loop.invariant.all first.ensures.number second.ensures.number c.join.ensures in
    record {
      forest = c.join.ensures.forest;
      noted = noted_more regions links words i none loop.places first.new.places second.new.places first.result second.result inside c.requires.ends.all
          first.ensures.number second.ensures.number first.ensures.inside second.ensures.inside first.ensures.noted second.ensures.noted loop.invariant.noted;
      only = step.0;
      all = step.1;
    }

pub returns : goal.returns
returns c =
    let loop = c.loop-link in
    let regions = c.args.offsets.now in let links = c.args.links.now in let words = c.args.marks.now in
    let P : List (RegionId × RegionId) → Type 0 = λ read. HoldLinks (λ id. marked_before words (place regions id)) read loop.parents in
    let Q : List (RegionId × RegionId) → Type 0 = λ read. All (IsNoted regions words loop.places) read in
    let whole = take_all loop.link-index links (omega arith) in
    spread_made regions links words loop.places loop.parents c.requires.exist c.requires.ends
    (places_noted regions links words loop.places c.requires.ends (omega (arith, loop.auto.places, c.requires.places)) (subst Q whole loop.invariant.noted))
    loop.invariant.forest (omega (arith, loop.auto.parents, c.requires.parents)) loop.invariant.only (subst P whole loop.invariant.all)
