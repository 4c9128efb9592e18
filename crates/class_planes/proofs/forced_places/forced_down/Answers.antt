use Rattle.std.proofs.Common.{ℕ, ◌+◌, ◌*◌}
use Rattle.class_planes.proofs.WordLemmas.{sides_bit}
use Rattle.class_planes.proofs.forced_places.forced_down.Goals as goal

pub returns : goal.returns
returns c k below =
    let place : ℕ = 64 * c.args.w + k in
    sides_bit c.args.left.now c.args.right.now c.args.w k (place + 1) c.moved_down-left_before.result c.moved_down-right_before.result c.forced_places.result below
    (c.forced_places.ensures k below) (c.moved_down-left_before.ensures k below) (c.moved_down-right_before.ensures k below)
