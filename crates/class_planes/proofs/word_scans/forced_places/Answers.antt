use Rattle.class_planes.proofs.WordLemmas.{openings_bit}
use Rattle.class_planes.proofs.word_scans.forced_places.Goals as goal

pub returns : goal.returns
returns c k below =
    openings_bit c.args.left c.args.left_before c.args.right c.args.right_before k below c.ranges.left_before.fits
    c.ranges.right_before.fits
