use Rattle.std.proofs.Common.{◌<◌, length, get_or, bit_or, arith}
use Rattle.std.proofs.lemmas.List.{get_or_default}
use Rattle.std.proofs.lemmas.List.Edits.{map_over_more}
use Rattle.lane_rows.proofs.or_each.Goals as goal

pub loop-number-preserved : goal.loop-number-preserved
loop-number-preserved c =
    let row = c.loop-number.row in
    let i = c.loop-number.number-index in
    let within : i < length row = omega arith in
    map_over_more (λ n. bit_or n c.args.mask) c.args.row.now row i (get_or row i 0)
    c.loop-number-test.true c.loop-number.invariant (get_or_default row i 0 (get_or row i 0) within)
