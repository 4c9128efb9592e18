use Rattle.std.proofs.Common.{ℕ, ◌+◌, ◌-◌, ◌*◌}
use Rattle.class_planes.proofs.WordLemmas.{sides_bit}
use Rattle.class_planes.proofs.forced_places.forced_up.Goals as goal

pub returns : goal.returns
returns c k below some =
    let place : ℕ = 64 * c.args.w + k in
    sides_bit c.args.left.now c.args.right.now c.args.w k (place - 1) c.moved_up-left_before.result c.moved_up-right_before.result c.forced_places.result below
    (c.forced_places.ensures k below) (c.moved_up-left_before.ensures.bits k below some) (c.moved_up-right_before.ensures.bits k below some)
