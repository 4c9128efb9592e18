use Rattle.std.proofs.Common.{ℕ, ◌+◌, ◌*◌, arith}
use Rattle.class_planes.proofs.WordLemmas.{sides_bit}
use Rattle.class_planes.proofs.forced_places.first_forced_down.Goals as goal

pub returns : goal.returns
returns c k below =
    let place : ℕ = 64 * c.args.w + k in
    sides_bit c.args.left.now c.args.right.now c.args.w k (place + 1) c.shifted_down-left_before.result
    c.shifted_down-right_before.result c.forced_places.result (omega arith) (c.forced_places.ensures k (omega arith))
    (c.shifted_down-left_before.ensures k below) (c.shifted_down-right_before.ensures k below)
