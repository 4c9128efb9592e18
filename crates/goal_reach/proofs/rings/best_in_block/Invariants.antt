use Rattle.goal_reach.specs.inner.Ranking.{IsBest}
use Rattle.goal_reach.specs.inner.Rings.{IsInBlock}
use Rattle.goal_reach.proofs.Running.{up_to_line}
use Rattle.goal_reach.proofs.rings.best_in_block.Given as goal

-- the best of the block's cells before the line
abbrev pub invariant-loop-line : goal.invariant-loop-line
invariant-loop-line g l = IsBest (g.C.Choice.rank_of l.choice) (λ cell. g.C.Choice.offered l.choice cell × IsInBlock (up_to_line l.block l.line) cell) l.best
