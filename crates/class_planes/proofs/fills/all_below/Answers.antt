use Rattle.class_planes.proofs.FillLemmas.{below_highest}
use Rattle.class_planes.proofs.fills.all_below.Goals as goal

pub returns : goal.returns
returns c k below =
    below_highest c.args.bits c.highest.result k c.highest.ensures.small c.highest.ensures.set c.highest.ensures.none below
