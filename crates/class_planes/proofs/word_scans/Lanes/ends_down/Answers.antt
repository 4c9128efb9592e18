use Rattle.std.proofs.Common.{ℕ, ◌≡◌, ◌+◌, ◌*◌, subst}
use Rattle.std.specs.Int.{bit_at}
use Rattle.class_planes.specs.inner.Runs.{LaneWords, end_down}
use Rattle.class_planes.proofs.WordLemmas.{ends_bit}
use Rattle.class_planes.proofs.word_scans.Lanes.ends_down.Goals as goal

pub returns : goal.returns
returns c k below =
    let own = c.self.inside in
    let place : ℕ = 64 * c.args.w + k in
    subst (λ (lanes : LaneWords). bit_at c.halting.result k ≡ end_down lanes place) c.self.view_is
    (ends_bit own.mid.now own.left.now own.right.now c.args.w k (place + 1) c.moved_down-left_before.result
    c.moved_down-right_before.result c.halting.result below (c.halting.ensures k below)
    (c.moved_down-left_before.ensures k below) (c.moved_down-right_before.ensures k below))
