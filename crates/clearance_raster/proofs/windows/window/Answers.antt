use Rattle.std.proofs.Common.{rules, arith}
use Rattle.nav_types.specs.Cells.{cell_at}
use Rattle.obstruction_shapes.specs.Blocking.{blocked}
use Rattle.clearance_raster.proofs.BlockedColumns.{if_none, none_from, run_from}
use Rattle.clearance_raster.proofs.windows.window.Goals as goal

pub returns-in_err-along-clause-none : goal.returns-in_err-along-clause-none
returns-in_err-along-clause-none c = if_none c.from_residual.result
    (none_from (λ i. blocked c.args.shape.now c.args.clearance (cell_at i c.args.j)) c.args.rect.i0 c.args.rect.i1 (λ k within. c.in_err-along.ensures.none k (search rules)))

pub returns-in_err-across-clause-none : goal.returns-in_err-across-clause-none
returns-in_err-across-clause-none c = if_none c.from_residual-in_err-across.result
    (none_from (λ i. blocked c.args.shape.now c.args.clearance (cell_at i c.args.j)) c.args.rect.i0 c.args.rect.i1 (λ k within. c.in_err-across.ensures.none k (search rules)))

pub returns-then-first-last-clause-blocked : goal.returns-then-first-last-clause-blocked
returns-then-first-last-clause-blocked c =
    run_from (λ i. blocked c.args.shape.now c.args.clearance (cell_at i c.args.j)) c.args.rect.i0 c.args.rect.i1 c.max-first.result c.min-last.result
    (λ k within hit.
    let along = c.in_ok-along.ensures.blocked k (search rules) hit in let across = c.in_ok-across.ensures.blocked k (search rules) hit in
    let low = along.0 in let high = along.1 in let low_across = across.0 in let high_across = across.1 in
    (grind arith, grind arith))

pub returns-else-first-last-clause-none : goal.returns-else-first-last-clause-none
returns-else-first-last-clause-none c =
    none_from (λ i. blocked c.args.shape.now c.args.clearance (cell_at i c.args.j)) c.args.rect.i0 c.args.rect.i1
    (λ k within hit.
    let along = c.in_ok-along.ensures.blocked k (search rules) hit in let across = c.in_ok-across.ensures.blocked k (search rules) hit in
    let low = along.0 in let high = along.1 in let low_across = across.0 in let high_across = across.1 in
    grind arith)
