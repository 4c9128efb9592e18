use Rattle.std.proofs.Common.{ℕ, sym, subst}
use Rattle.class_planes.specs.Planes.{is_passable}
use Rattle.class_planes.specs.inner.Runs.{LaneWords, OpensFirst, bits_along}
use Rattle.class_planes.proofs.OpeningLemmas.{known_first}
use Rattle.class_planes.proofs.TrackLemmas.{forced_first}
use Rattle.class_planes.proofs.plane_scans.steps_to_opening.Goals as goal

pub returns : goal.returns
returns c far runs is =
    let way = c.args.straight.way in
    let lanes : LaneWords = c.lanes_at.result in
    let first = forced_first (is_passable c.args.plane.now) c.args.straight c.args.from lanes far
    c.lanes_at.ensures.bits runs is in
    known_first c.first_opening.result (bits_along way lanes.left c.place_on.result)
    (bits_along way lanes.right c.place_on.result) far.count
    (subst (λ (k : ℕ). OpensFirst (bits_along way lanes.left k) (bits_along way lanes.right k) far.count)
    (sym c.place_on.ensures) first) c.first_opening.ensures.some c.first_opening.ensures.none
