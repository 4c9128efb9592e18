use Rattle.std.proofs.Common.{◌∙◌}
use Rattle.class_planes.specs.inner.Lines.{line_in}
use Rattle.class_planes.proofs.TurnLemmas.{sixteen_bit}
use Rattle.class_planes.proofs.lines.sixteen_in.Goals as goal

pub returns : goal.returns
returns c b small =
    c.quarter.ensures b small
    ∙ sixteen_bit (line_in c.args.words c.args.band.now c.args.k) c.from.result c.args.group b c.from.ensures small
