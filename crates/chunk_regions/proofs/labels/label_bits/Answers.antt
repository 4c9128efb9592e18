use Rattle.std.proofs.Common.{ap, arith}
use Rattle.nav_types.specs.declared.cells.Rect.{Rect}
use Rattle.nav_types.specs.Regions.{passes_in}
use Rattle.chunk_regions.specs.inner.Spans.{bits_at}
use Rattle.chunk_regions.proofs.ChunkLemmas.{IsCut-from_runs, AreLabels-from_regions}
use Rattle.chunk_regions.proofs.RelabelLemmas.{AreSpansIn-bits}
use Rattle.chunk_regions.proofs.labels.label_bits.Goals as goal

pub returns-clause-labels : goal.returns-clause-labels
returns-clause-labels g c = λ passes are.
    let chunk = c.args.chunk in
    let runs = c.in_ok-spans.spans in
    let cut = IsCut-from_runs passes chunk (bits_at c.args.bits.now) runs are.set c.in_ok-spans.ensures in
    AreLabels-from_regions passes c.args.size chunk runs c.in_ok-regions.field-0.regions.items c.in_ok-regions.field-0.firsts.items c.of_chunk-rect.result
    c.are_inside-within.result c.of_chunk-rect.ensures.value cut (c.in_ok-regions.ensures.numbered (passes_in passes chunk) cut)

pub returns-clause-ticks : goal.returns-clause-ticks
returns-clause-ticks g c = c.tick.ensures

pub returns-in_err-spans-clause-ticks : goal.returns-in_err-spans-clause-ticks
returns-in_err-spans-clause-ticks g c = c.tick.ensures

pub returns-in_err-regions-clause-ticks : goal.returns-in_err-regions-clause-ticks
returns-in_err-regions-clause-ticks g c = c.tick.ensures

pub invariant_of-result : goal.invariant_of-result
invariant_of-result g c =
    let all = c.in_ok-regions.ensures in
    let few = all.few in
    let patch = c.of_chunk-rect.ensures.patch in
    let columns = patch.columns in
    let rows = patch.rows in
    let east = patch.east in
    let north = patch.north in
    let west = ap (λ (z : Rect). z.i0) c.of_chunk-rect.ensures.value in
    let south = ap (λ (z : Rect). z.j0) c.of_chunk-rect.ensures.value in (
      patch,
      all.regions,
      omega arith,
      λ at less. (all.bounded.within at less).0,
      omega arith,
      omega arith,
      λ within. AreSpansIn-bits c.in_ok-spans.spans c.of_chunk-rect.result c.args.bits.now (c.are_inside-within.ensures within) c.in_ok-spans.ensures,
    )
