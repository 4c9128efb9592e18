use Rattle.line_smooth.specs.inner.Plans.{IsBlocking}
use Rattle.line_smooth.proofs.Candidates.{IsBestSoFar}
use Rattle.line_smooth.proofs.smoothing.best_next.Given as goal

abbrev pub invariant-candidates : goal.invariant-candidates
invariant-candidates g l = record {
  best : IsBestSoFar (g.V.View.passes l.view l.class) l.places l.hops l.from l.next l.bound l.at;
  blocked : IsBlocking (g.V.View.passes l.view l.class) l.blocked;
}

abbrev pub decreases-candidates : goal.decreases-candidates
decreases-candidates g l = l.at
