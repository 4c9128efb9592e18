use Rattle.std.proofs.Common.{ℕ, ◌≡◌, ◌+◌, ◌-◌, ◌*◌, subst}
use Rattle.std.specs.Int.{bit_at}
use Rattle.class_planes.specs.inner.Runs.{LaneWords, end_up}
use Rattle.class_planes.proofs.WordLemmas.{ends_bit}
use Rattle.class_planes.proofs.word_scans.Lanes.first_ends_up.Goals as goal

pub returns : goal.returns
returns c k some below =
    let own = c.self.inside in
    let place : ℕ = 64 * c.args.w + k in
    subst (λ (lanes : LaneWords). bit_at c.halting.result k ≡ end_up lanes place) c.self.view_is
    (ends_bit own.mid.now own.left.now own.right.now c.args.w k (place - 1) c.shifted_up-left_before.result
    c.shifted_up-right_before.result c.halting.result below (c.halting.ensures k below)
    (c.shifted_up-left_before.ensures k some below) (c.shifted_up-right_before.ensures k some below))
