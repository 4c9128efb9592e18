use Rattle.std.proofs.Common.{◌<◌, length, get_or, arith}
use Rattle.std.proofs.lemmas.List.{get_or_default}
use Rattle.std.proofs.lemmas.List.Edits.{map_over_more}
use Rattle.chunk_regions.specs.inner.Moving.{moved}
use Rattle.chunk_regions.proofs.spans.move_places.Goals as goal

pub loop-place-preserved : goal.loop-place-preserved
loop-place-preserved c =
    let places = c.loop-place.places in
    let i = c.loop-place.place-index in
    let within : i < length places = omega arith in
    map_over_more (moved c.args.first c.args.here) c.args.places.now places i (get_or places i 0)
    c.loop-place-test.true c.loop-place.invariant (get_or_default places i 0 (get_or places i 0) within)
