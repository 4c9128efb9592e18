use Rattle.std.proofs.Common.{◌<◌, ◌∙◌, length, get_or, arith}
use Rattle.std.proofs.lemmas.List.{get_or_default, get_or-set_other}
use Rattle.std.proofs.lemmas.List.Edits.{map_over_more}
use Rattle.chunk_regions.specs.inner.Joining.{number_in}
use Rattle.chunk_regions.proofs.label_spans.number_spans.Goals as goal

pub loop-region-preserved : goal.loop-region-preserved
loop-region-preserved c =
    let items = c.loop-region.regions in
    let i = c.loop-region.region-index in
    let old = c.args.regions.now in
    let numbers = c.args.numbers.now in
    let kept = c.loop-region.invariant in
    let within : i < length items = omega arith in
    record {
      numbered = map_over_more (number_in numbers) old items i (get_or items i 0) c.loop-region-test.true kept.numbered
          (get_or_default items i 0 (get_or items i 0) within);
      rest = λ k more. get_or-set_other items i k (number_in numbers (get_or items i 0)) 0 (λ same. omega arith) ∙ kept.rest k (omega arith);
    }
