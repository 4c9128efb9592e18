use Rattle.std.proofs.Common.{rules, ℕ, subst, IsTrue}
use Rattle.nav_types.specs.Cells.{cell_at}
use Rattle.obstruction_shapes.specs.Blocking.{blocked}
use Rattle.obstruction_shapes.proofs.Runs.{blocked_between}
use Rattle.clearance_raster.proofs.BlockedColumns.{if_none, run_in_window, none_in_window}
use Rattle.clearance_raster.proofs.runs.run_in_row.Goals as goal

pub returns-clause-run : goal.returns-clause-run
returns-clause-run c =
    let first = c.in_ok-first.first in let last = c.last_blocked.result in
    run_in_window (λ i. blocked c.args.shape.now c.args.clearance (cell_at i c.args.j)) c.args.rect.i0 c.args.rect.i1
    c.in_ok-west.west c.in_ok-west.east first last
    (λ i from to. blocked_between c.args.shape.now c.args.clearance first i last c.args.j from to c.in_ok-first.ensures.blocked c.last_blocked.ensures.blocked)
    (λ i low high hit. c.in_ok-west.ensures.blocked i low high (subst (λ (r : ℕ). IsTrue (blocked c.args.shape.now c.args.clearance (cell_at i r))) (search rules) hit)) c.in_ok-first.ensures.before c.last_blocked.ensures.after

pub returns-in_err-first-clause-none : goal.returns-in_err-first-clause-none
returns-in_err-first-clause-none c = if_none c.from_residual-in_err-first.result
    (none_in_window (λ i. blocked c.args.shape.now c.args.clearance (cell_at i c.args.j)) c.args.rect.i0 c.args.rect.i1
    c.in_ok-west.west c.in_ok-west.east (λ i low high hit. c.in_ok-west.ensures.blocked i low high (subst (λ (r : ℕ). IsTrue (blocked c.args.shape.now c.args.clearance (cell_at i r))) (search rules) hit)) c.in_err-first.ensures.none)
