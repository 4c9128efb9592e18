use Rattle.std.proofs.Common.{List, subst, arith}
use Rattle.std.specs.Prelude.{All}
use Rattle.std.proofs.lemmas.List.{take_all}
use Rattle.reach_sets.specs.declared.regions.RegionId.{RegionId}
use Rattle.reach_sets.specs.inner.Linked.{HasMarks}
use Rattle.reach_sets.proofs.EndLemmas.{ends_more}
use Rattle.reach_sets.proofs.linked.mark_ends.Goals as goal

pub loop-link-preserved : goal.loop-link-preserved
loop-link-preserved c =
    let loop = c.loop-link in
    let none : RegionId × RegionId = (record { chunk = 0; region = 0 }, record { chunk = 0; region = 0 }) in
    let step = ends_more c.args.offsets.now c.args.links.now loop.link-index none loop.words c.mark.new.words c.mark-in-loop-link.new.words c.place_of.result c.place_of-in-loop-link.result c.loop-link-test.true
    c.place_of.ensures.place c.place_of-in-loop-link.ensures.place c.mark.ensures c.mark-in-loop-link.ensures loop.invariant.all loop.invariant.only in
    record { all = step.0; only = step.1 }

pub returns : goal.returns
returns c =
    let loop = c.loop-link in let links = c.args.links.now in
    let P : List (RegionId × RegionId) → Type 0 = λ read. All (HasMarks c.args.offsets.now loop.words) read in
    record {
      all = subst P (take_all loop.link-index links (omega arith)) loop.invariant.all;
      only = loop.invariant.only;
    }
