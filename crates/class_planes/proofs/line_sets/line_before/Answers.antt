use Rattle.std.proofs.Common.{sym, ap, arith}
use Rattle.class_planes.specs.inner.StopLines.{line_before}
use Rattle.class_planes.proofs.StopBandLemmas.{line_before_later}
use Rattle.class_planes.proofs.line_sets.line_before.Goals as goal

pub returns-then-n-eq0-clause-before : goal.returns-then-n-eq0-clause-before
returns-then-n-eq0-clause-before c = ap (line_before c.args.count) (sym c.if-n-eq0.true)

pub returns-else-n-eq0-clause-before : goal.returns-else-n-eq0-clause-before
returns-else-n-eq0-clause-before c =
    let some = c.if-n-eq0.false in sym (line_before_later c.args.count c.args.n (omega (arith, some)))
