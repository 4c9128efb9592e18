use Rattle.std.proofs.Common.{ℕ, ◌+◌, ◌-◌, ◌*◌}
use Rattle.class_planes.proofs.WordLemmas.{sides_bit}
use Rattle.class_planes.proofs.forced_places.first_forced_up.Goals as goal

pub returns : goal.returns
returns c k some below =
    let place : ℕ = 64 * c.args.w + k in
    sides_bit c.args.left.now c.args.right.now c.args.w k (place - 1) c.shifted_up-left_before.result
    c.shifted_up-right_before.result c.forced_places.result below (c.forced_places.ensures k below)
    (c.shifted_up-left_before.ensures k some below) (c.shifted_up-right_before.ensures k some below)
