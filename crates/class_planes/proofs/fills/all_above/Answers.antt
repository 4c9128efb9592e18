use Rattle.class_planes.proofs.FillLemmas.{above_lowest, lowest_of_all}
use Rattle.class_planes.proofs.fills.all_above.Goals as goal

pub returns-clause-lowest : goal.returns-clause-lowest
returns-clause-lowest c =
    lowest_of_all c.args.bits c.lowest.result c.lowest.ensures.small c.lowest.ensures.set c.lowest.ensures.none

pub returns-clause-others : goal.returns-clause-others
returns-clause-others c k below =
    above_lowest c.args.bits c.lowest.result k c.lowest.ensures.small c.lowest.ensures.set c.lowest.ensures.none below
