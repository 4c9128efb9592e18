use Rattle.std.proofs.Common.{sym, subst, arith}
use Rattle.nav_types.specs.declared.cells.Cell.{Cell}
use Rattle.nav_types.specs.Lines.{side_along}
use Rattle.line_smooth.specs.Segments.{Touches}
use Rattle.line_smooth.proofs.Sights.{not_before, passes_before}
use Rattle.line_smooth.proofs.segments.Segment.blocker_on.Goals as goal

pub returns-then-place-span-clause-touched : goal.returns-then-place-span-clause-touched
returns-then-place-span-clause-touched g c =
    let s = c.args.self in
    let passes = g.V.View.passes c.args.view.now c.args.class in
    let end = side_along s.axis (g.V.View.extent c.args.view.now) in
    let low = not_before passes s.axis c.cell_on.result c.args.line c.span-span.result.first end c.next_blocked-place.result c.cell_on.ensures c.next_blocked-place.ensures in
    let P = λ (cell : Cell). Touches s.from s.to cell in
    subst P (sym c.cell_on-then-place-span.ensures) ((c.span-span.ensures.exact c.next_blocked-place.result).1 (low, c.if-place-span.true))

pub returns-else-place-span-clause-none : goal.returns-else-place-span-clause-none
returns-else-place-span-clause-none g c = λ place touches.
    let s = c.args.self in
    let passes = g.V.View.passes c.args.view.now c.args.class in
    let end = side_along s.axis (g.V.View.extent c.args.view.now) in
    let within = (c.span-span.ensures.exact place).0 touches in
    passes_before passes s.axis c.cell_on.result c.args.line c.span-span.result.first end c.next_blocked-place.result place c.cell_on.ensures c.next_blocked-place.ensures
    within.0 (omega (arith, within.1, c.if-place-span.false))
