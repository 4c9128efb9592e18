use Rattle.std.proofs.Common.{◌-◌, length}
use Rattle.line_smooth.specs.inner.Plans.{IsBlocking, AreHopsFrom, ArePlanned}
use Rattle.line_smooth.proofs.smoothing.planned_rises.Given as goal

abbrev pub invariant-loop-passed : goal.invariant-loop-passed
invariant-loop-passed g l =
    let passes = g.V.View.passes l.view l.class in record {
      known : AreHopsFrom passes l.places l.hops.items (length l.places - l.passed);
      planned : ArePlanned passes l.places l.rises.items (length l.places - l.passed);
      blocked : IsBlocking passes l.blocked;
    }
