use Rattle.std.proofs.Common.{◌-◌, max, ap, ◌∙◌}
use Rattle.std.specs.Int.{bit_at}
use Rattle.class_planes.proofs.WordLemmas.{halting_bit}
use Rattle.class_planes.proofs.word_scans.halting.Goals as goal

pub returns : goal.returns
returns c k below =
    halting_bit c.args.mid c.forced_places.result k below c.ranges.mid.fits
    ∙ ap (max (1 - bit_at c.args.mid k)) (c.forced_places.ensures k below)
