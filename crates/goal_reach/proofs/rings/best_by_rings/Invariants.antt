use Rattle.nav_types.specs.Cells.{IsInRect}
use Rattle.goal_reach.specs.inner.Ranking.{IsBest}
use Rattle.goal_reach.specs.inner.Rings.{widened}
use Rattle.goal_reach.proofs.rings.best_by_rings.Given as goal

-- the best of the core's cells and of those of the rings so far
abbrev pub invariant-loop-ring : goal.invariant-loop-ring
invariant-loop-ring g l = IsBest (g.C.Choice.rank_of l.choice) (λ cell. g.C.Choice.offered l.choice cell × IsInRect (widened l.ring l.core) cell) l.best
