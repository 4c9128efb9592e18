use Rattle.pathserve_c.proofs.Sighted.{classless, refused}
use Rattle.pathserve_c.proofs.sights.is_clear.Goals as goal

pub returns-in-None : goal.returns-in-None
returns-in-None c = refused (classless c.args.version.now c.args.class_number c.args.from c.args.to c.in-None.ensures.none)
