use Rattle.std.proofs.Common.{arith}
use Rattle.clearance_raster.proofs.BlockedColumns.{multiples}
use Rattle.clearance_raster.proofs.windows.multiples_between.Goals as goal

pub returns-then-first-last-clause-between : goal.returns-then-first-last-clause-between
returns-then-first-last-clause-between c = λ k within. multiples c.args.least c.args.greatest c.args.step c.args.end k c.div_ceil-first.result c.min-last.result
    (omega arith) within (search arith) (search arith)

pub returns-else-first-last-clause-none : goal.returns-else-first-last-clause-none
returns-else-first-last-clause-none c = λ k within both.
    let run = (multiples c.args.least c.args.greatest c.args.step c.args.end k c.div_ceil-first.result c.min-last.result
    (omega arith) within (search arith) (search arith)).1 both in
    let low = run.0 in let high = run.1 in
    omega arith
