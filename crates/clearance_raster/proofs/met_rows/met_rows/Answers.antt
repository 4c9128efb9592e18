use Rattle.std.proofs.Common.{◌-◌, arith}
use Rattle.std.specs.Prelude.{IsTrue}
use Rattle.obstruction_shapes.specs.Blocking.{blocked}
use Rattle.clearance_raster.proofs.BlockedColumns.{if_none}
use Rattle.clearance_raster.proofs.BlockedRows.{row_of}
use Rattle.clearance_raster.proofs.met_rows.met_rows.Goals as goal

pub returns-in_err-along-clause-none : goal.returns-in_err-along-clause-none
returns-in_err-along-clause-none c = if_none c.from_residual.result
    (λ cell inside hit.
    let at = row_of c.args.rect cell (λ cell. IsTrue (blocked c.args.shape.now c.args.clearance cell)) inside hit in
    c.in_err-along.ensures.none cell.i (cell.j - c.args.rect.j0) inside.west inside.east at.within at.holds)

pub returns-in_err-across-clause-none : goal.returns-in_err-across-clause-none
returns-in_err-across-clause-none c = if_none c.from_residual-in_err-across.result
    (λ cell inside hit.
    let at = row_of c.args.rect cell (λ cell. IsTrue (blocked c.args.shape.now c.args.clearance cell)) inside hit in
    c.in_err-across.ensures.none cell.i (cell.j - c.args.rect.j0) inside.west inside.east at.within at.holds)

pub returns-then-first-last-clause-blocked : goal.returns-then-first-last-clause-blocked
returns-then-first-last-clause-blocked c = λ cell inside hit.
    let at = row_of c.args.rect cell (λ cell. IsTrue (blocked c.args.shape.now c.args.clearance cell)) inside hit in
    let along = c.in_ok-along.ensures.blocked cell.i (cell.j - c.args.rect.j0) inside.west inside.east at.within at.holds in
    let across = c.in_ok-across.ensures.blocked cell.i (cell.j - c.args.rect.j0) inside.west inside.east at.within at.holds in
    let low = along.0 in let high = along.1 in let low_across = across.0 in let high_across = across.1 in
    let south = inside.south in let north = inside.north in
    record { west = inside.west; east = inside.east; south = grind arith; north = grind arith }

pub returns-else-first-last-clause-none : goal.returns-else-first-last-clause-none
returns-else-first-last-clause-none c = λ cell inside hit.
    let at = row_of c.args.rect cell (λ cell. IsTrue (blocked c.args.shape.now c.args.clearance cell)) inside hit in
    let along = c.in_ok-along.ensures.blocked cell.i (cell.j - c.args.rect.j0) inside.west inside.east at.within at.holds in
    let across = c.in_ok-across.ensures.blocked cell.i (cell.j - c.args.rect.j0) inside.west inside.east at.within at.holds in
    let low = along.0 in let high = along.1 in let low_across = across.0 in let high_across = across.1 in
    grind arith
