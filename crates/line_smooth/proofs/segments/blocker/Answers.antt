use Rattle.std.proofs.Common.{ℕ, ◌≡◌, IsTrue, sym, subst, arith}
use Rattle.nav_types.specs.declared.cells.Cell.{Cell}
use Rattle.nav_types.specs.Lines.{cell_on, line_on}
use Rattle.line_smooth.specs.Segments.{Touches}
use Rattle.line_smooth.specs.inner.Lines.{IsBetween}
use Rattle.line_smooth.proofs.Sights.{clear_by_lines, one_line_more}
use Rattle.line_smooth.proofs.segments.blocker.Goals as goal

pub loop-across-preserved : goal.loop-across-preserved
loop-across-preserved g c = λ line place between near touches.
    let passes = g.V.View.passes c.args.view.now c.args.class in
    let s = c.new-segment.result in
    let line-now = c.line_across-line.result in
    let P = λ (line : ℕ). Touches c.args.from c.args.to (cell_on s.axis line place) → IsTrue (passes (cell_on s.axis line place)) in
    let Q = λ (from : Cell). Touches from s.to (cell_on s.axis line-now place) in
    let R = λ (to : Cell). Touches c.args.from to (cell_on s.axis line-now place) in
    let here : P line-now = λ t. c.in_default.ensures.none place (subst Q (sym c.new-segment.ensures.from) (subst R (sym c.new-segment.ensures.to) t)) in
    one_line_more P c.line_on-start.result c.line_on-end.result c.loop-across.across line-now line
    c.line_across-line.ensures.between c.line_across-line.ensures.across (λ k b n t. c.loop-across.invariant k place b n t) here
    between near touches

pub returns-clause-none : goal.returns-clause-none
returns-clause-none g c =
    let passes = g.V.View.passes c.args.view.now c.args.class in
    let axis = c.new-segment.result.axis in
    clear_by_lines passes axis c.args.from c.args.to
    (λ line place between touches.
    let start : c.line_on-start.result ≡ line_on axis c.args.from = c.line_on-start.ensures in
    let end : c.line_on-end.result ≡ line_on axis c.args.to = c.line_on-end.ensures in
    let b : IsBetween (line_on axis c.args.from) (line_on axis c.args.to) line = between in
    c.loop-across.invariant line place (omega arith) (omega arith) touches)
