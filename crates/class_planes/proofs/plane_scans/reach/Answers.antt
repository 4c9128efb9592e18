use Rattle.std.proofs.Common.{ℕ, subst}
use Rattle.class_planes.specs.Planes.{is_passable}
use Rattle.class_planes.specs.inner.Runs.{GoesFar, LaneWords, bits_along}
use Rattle.class_planes.proofs.TrackLemmas.{lanes_far}
use Rattle.class_planes.proofs.plane_scans.reach.Goals as goal

pub returns : goal.returns
returns c =
    let way = c.args.straight.way in
    let lanes : LaneWords = c.lanes_at.result in
    lanes_far (is_passable c.args.plane.now) c.args.straight c.args.from lanes c.reach.result c.lanes_at.ensures.bits
    (subst (λ (k : ℕ). GoesFar (bits_along way lanes.mid k) (bits_along way lanes.left k) (bits_along way lanes.right k)
    c.reach.result) c.place_on.ensures c.reach.ensures)
