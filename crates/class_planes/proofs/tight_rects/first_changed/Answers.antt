use Rattle.std.proofs.Common.{arith}
use Rattle.class_planes.specs.inner.StopLines.{map_lines}
use Rattle.class_planes.proofs.TightLemmas.{same_more}
use Rattle.class_planes.proofs.tight_rects.first_changed.Goals as goal

pub loop-n-init : goal.loop-n-init
loop-n-init c n i low below west east = absurd (omega (arith, low, below))

pub loop-n-preserved : goal.loop-n-preserved
loop-n-preserved c =
    same_more (map_lines c.args.before.now) (map_lines c.args.lines.now) c.args.rect c.args.rect.j0 c.loop-n.n c.loop-n.invariant
    (c.is_same.ensures c.if-not-is_same.false)

pub returns-clause-same : goal.returns-clause-same
returns-clause-same c n i low below west east =
    c.loop-n.invariant n i low (omega (arith, below, c.loop-n-test.false)) west east
