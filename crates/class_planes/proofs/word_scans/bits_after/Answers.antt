use Rattle.class_planes.proofs.WordLemmas.{bit_after}
use Rattle.class_planes.proofs.word_scans.bits_after.Goals as goal

pub returns : goal.returns
returns c m = bit_after c.args.word c.args.k m
