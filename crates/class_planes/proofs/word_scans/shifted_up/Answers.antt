use Rattle.class_planes.proofs.WordLemmas.{shifted_up}
use Rattle.class_planes.proofs.word_scans.shifted_up.Goals as goal

pub returns : goal.returns
returns c k some below = shifted_up c.args.line.now c.args.w k some below
