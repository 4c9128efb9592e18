use Rattle.std.proofs.Common.{ℕ, ◌<◌, IsTrue}
use Rattle.nav_types.specs.Lines.{cell_on}
use Rattle.line_smooth.specs.Segments.{gap, Touches}
use Rattle.line_smooth.specs.inner.Lines.{IsBetween}
use Rattle.line_smooth.proofs.segments.blocker.Given as goal

-- what the segment touches on each line so far is passable
abbrev pub invariant-loop-across : goal.invariant-loop-across
invariant-loop-across g l =
    (line place : ℕ) → IsBetween l.start l.end line → gap l.start line < l.across → Touches l.fn.from l.fn.to (cell_on l.segment.axis line place)
    → IsTrue (g.V.View.passes l.view l.class (cell_on l.segment.axis line place))
