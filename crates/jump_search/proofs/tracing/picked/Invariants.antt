use Rattle.jump_search.specs.inner.Traced.{IsLookedThrough}
use Rattle.jump_search.proofs.tracing.picked.Given as goal

abbrev pub invariant-walk : goal.invariant-walk
invariant-walk l = IsLookedThrough l.nodes l.cell l.cost l.next l.after l.best

abbrev pub decreases-walk : goal.decreases-walk
decreases-walk l = l.after
