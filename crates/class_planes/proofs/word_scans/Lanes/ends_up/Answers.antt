use Rattle.std.proofs.Common.{ℕ, ◌≡◌, ◌+◌, ◌-◌, ◌*◌, subst}
use Rattle.std.specs.Int.{bit_at}
use Rattle.class_planes.specs.inner.Runs.{LaneWords, end_up}
use Rattle.class_planes.proofs.WordLemmas.{ends_bit}
use Rattle.class_planes.proofs.word_scans.Lanes.ends_up.Goals as goal

pub returns : goal.returns
returns c k below some =
    let own = c.self.inside in
    let place : ℕ = 64 * c.args.w + k in
    subst (λ (lanes : LaneWords). bit_at c.halting.result k ≡ end_up lanes place) c.self.view_is
    (ends_bit own.mid.now own.left.now own.right.now c.args.w k (place - 1) c.moved_up-left_before.result
    c.moved_up-right_before.result c.halting.result below (c.halting.ensures k below)
    (c.moved_up-left_before.ensures.bits k below some) (c.moved_up-right_before.ensures.bits k below some))
