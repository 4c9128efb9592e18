use Rattle.std.proofs.Common.{◌*◌}
use Rattle.class_planes.proofs.TurnLemmas.{quarter_bit}
use Rattle.class_planes.proofs.lines.quarter.Goals as goal

pub returns : goal.returns
returns c k small = quarter_bit c.args.word (16 * c.args.part) k small
