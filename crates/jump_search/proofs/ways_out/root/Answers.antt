use Rattle.std.proofs.Common.{arith}
use Rattle.jump_search.proofs.Roots.{one_root}
use Rattle.jump_search.proofs.ways_out.root.Goals as goal

pub returns-clause-value : goal.returns-clause-value
returns-clause-value c =
    let high = c.isqrt.ensures.next_square_gt in
    one_root c.args.square c.isqrt.result (c.isqrt.ensures.square_le, omega (arith, high))
