use Rattle.std.proofs.Common.{arith}
use Rattle.class_planes.proofs.FillLemmas.{raised_low, raised_high}
use Rattle.class_planes.proofs.flag_words.at_top.Goals as goal

pub returns-clause-low : goal.returns-clause-low
returns-clause-low c k below = raised_low c.args.word 63 k below (omega arith)

pub returns-clause-top : goal.returns-clause-top
returns-clause-top c = raised_high c.args.word 63 0 (omega arith)
