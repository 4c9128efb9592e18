use Rattle.class_planes.proofs.WordLemmas.{shifted_down}
use Rattle.class_planes.proofs.word_scans.shifted_down.Goals as goal

pub returns : goal.returns
returns c k below = shifted_down c.args.line.now c.args.w k below
