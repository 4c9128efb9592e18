use Rattle.std.proofs.Common.{IsTrue, arith, sym, subst}
use Rattle.chunk_regions.specs.Labelling.{Labelling, AreLabels}
use Rattle.chunk_regions.proofs.RelabelLemmas.{AreSpansIn-anew, AreLabels-anew}
use Rattle.chunk_regions.proofs.labels.relabel.Goals as goal

pub number_all-requires-clause-column : goal.number_all-requires-clause-column
number_all-requires-clause-column g c = c.before-2.invariant.4

pub number_all-requires-clause-row : goal.number_all-requires-clause-row
number_all-requires-clause-row g c = c.before-2.invariant.5

pub invariant_of-result : goal.invariant_of-result
invariant_of-result g c =
    let own = c.before-2.inside in
    let is = c.before-2.invariant in
    let known = subst (λ (l : Labelling). IsTrue l.within) (sym c.before-2.view_is) c.requires.inside in
    let all = c.in_ok-regions.ensures in
    let few = all.few in (
      is.0,
      all.regions,
      omega arith,
      λ at less. (all.bounded.within at less).0,
      is.4,
      is.5,
      λ within. AreSpansIn-anew own.spans c.in_ok-spans.spans own.rect c.args.from c.args.to c.args.bits.now (is.6 known)
          (c.are_inside-within.ensures within) c.in_ok-spans.ensures.runs,
    )

pub returns-clause-labels : goal.returns-clause-labels
returns-clause-labels g c = λ old passes size chunk labels agree set.
    let own = c.before-2.inside in
    let is = c.before-2.invariant in
    let known = subst (λ (l : Labelling). IsTrue l.within) (sym c.before-2.view_is) c.requires.inside in
    let were = subst (λ (l : Labelling). AreLabels old size chunk l) (sym c.before-2.view_is) labels in
    AreLabels-anew old passes size chunk own.chunk own.spans c.in_ok-spans.spans own.regions.items c.in_ok-regions.field-0.regions.items own.rect
    own.firsts.items c.in_ok-regions.field-0.firsts.items own.within c.are_inside-within.result c.args.from c.args.to c.args.bits.now
    c.in_ok-spans.ensures.are is.1 is.3 is.0 (is.6 known) were agree set c.in_ok-spans.ensures.runs c.in_ok-regions.ensures.numbered

pub returns-clause-ticks : goal.returns-clause-ticks
returns-clause-ticks g c = c.tick.ensures

pub returns-in_err-spans-clause-ticks : goal.returns-in_err-spans-clause-ticks
returns-in_err-spans-clause-ticks g c = c.tick.ensures

pub returns-in_err-regions-clause-ticks : goal.returns-in_err-regions-clause-ticks
returns-in_err-regions-clause-ticks g c = c.tick.ensures
