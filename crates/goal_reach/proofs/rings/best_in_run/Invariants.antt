use Rattle.std.proofs.Common.{◌≤◌, ◌-◌}
use Rattle.goal_reach.specs.inner.Ranking.{IsBest}
use Rattle.goal_reach.specs.inner.Rings.{IsInRun}
use Rattle.goal_reach.proofs.rings.best_in_run.Given as goal

-- the best of the run's cells before the place
abbrev pub invariant-run : goal.invariant-run
invariant-run g l =
    record {
      first : l.from ≤ l.place;
      past : l.place ≤ l.end;
      best : IsBest (g.C.Choice.rank_of l.choice) (λ cell. g.C.Choice.offered l.choice cell × IsInRun l.axis l.line l.from l.place cell) l.best;
    }

abbrev pub decreases-run : goal.decreases-run
decreases-run g l = l.end - l.place
