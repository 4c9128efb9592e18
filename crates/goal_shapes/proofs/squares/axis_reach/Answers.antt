use Rattle.std.proofs.Common.{◌≡◌, ◌+◌, ◌*◌, ◌<◌, arith}
use Rattle.std.specs.Prelude.{unsigned_abs}
use Rattle.goal_shapes.specs.Goals.{squared_length, meets_axis}
use Rattle.goal_shapes.proofs.Reaches.{within_quotient}
use Rattle.goal_shapes.proofs.squares.axis_reach.Goals as goal

pub returns-clause-met : goal.returns-clause-met
unfolding meets_axis
returns-clause-met c = λ p.
    let n = squared_length c.args.main c.args.other in
    let positive : 0 < n = omega arith in
    let length_is : c.times_length.result ≡ n = omega arith in
    let extent = 32768 * n + 65536 * (unsigned_abs c.args.hw * unsigned_abs c.args.main + unsigned_abs c.args.hh * unsigned_abs c.args.other) in
    rw (c.axis_extent.ensures.value, length_is) (within_quotient (unsigned_abs p) n extent positive)
