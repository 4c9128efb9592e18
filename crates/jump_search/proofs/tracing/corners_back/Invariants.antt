use Rattle.std.proofs.Common.{ℕ, Bool}
use Rattle.nav_types.specs.declared.cells.Cell.{Cell}
use Rattle.jump_search.specs.inner.Traced.{IsTraceable, HasCorners}
use Rattle.jump_search.proofs.tracing.corners_back.Given as goal

-- wherever the walk can be traced back, it has been traced back to the cell
abbrev pub invariant-runs : goal.invariant-runs
invariant-runs l = (all : Bool) (passes hit : Cell → Bool) (ahead : Cell → ℕ)
    → IsTraceable all passes hit l.start ahead l.fn.best.cell l.fn.best.cost l.nodes
    → HasCorners passes hit l.start l.nodes l.fn.best.cell l.fn.best.cost l.cell l.cost l.next l.corners.items

abbrev pub decreases-runs : goal.decreases-runs
decreases-runs l = l.cost
