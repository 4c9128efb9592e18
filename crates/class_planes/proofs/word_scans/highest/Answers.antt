use Rattle.class_planes.proofs.WordLemmas.{top_bit}
use Rattle.class_planes.proofs.word_scans.highest.Goals as goal

pub returns-clause-set : goal.returns-clause-set
returns-clause-set c = (top_bit c.args.word c.requires c.ranges.word.fits).0

pub returns-clause-none : goal.returns-clause-none
returns-clause-none c = (top_bit c.args.word c.requires c.ranges.word.fits).1
