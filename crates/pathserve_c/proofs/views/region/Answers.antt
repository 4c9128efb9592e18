use Rattle.nav_types.specs.Cells.{cell_at}
use Rattle.pathserve_c.proofs.Places.{no_region}
use Rattle.pathserve_c.proofs.views.region.Goals as goal

pub returns-in-None : goal.returns-in-None
returns-in-None c = no_region c.args.version.now c.args.class_number (cell_at c.args.i c.args.j) c.in-None.ensures.none
