use Rattle.pathserve_c.specs.Sights.{cells_held}
use Rattle.pathserve_c.proofs.Sighted.{classless_walk}
use Rattle.pathserve_c.proofs.sights.smoothed.Goals as goal

pub returns-in_default-class_of : goal.returns-in_default-class_of
returns-in_default-class_of c =
    classless_walk c.args.version.now c.args.class_number c.args.start (cells_held c.args.waypoints.now) c.in_default-class_of.ensures.none
