use Rattle.std.proofs.Common.{rules, IsTrue}
use Rattle.obstruction_shapes.specs.Blocking.{blocked}
use Rattle.clearance_raster.proofs.BlockedColumns.{if_none}
use Rattle.clearance_raster.proofs.Reaching.{inside_map, blocked_spread, common_holds, common_none}
use Rattle.clearance_raster.proofs.reaches.reach_in.Goals as goal

pub returns-in_err-i0-clause-none : goal.returns-in_err-i0-clause-none
returns-in_err-i0-clause-none c = if_none c.from_residual.result
    (λ cell inside hit.
    let in_map = inside_map c.args.size c.args.part cell c.requires.inside inside in
    let spread = blocked_spread c.args.shape.now c.args.clearance cell c.requires.fits.unit_vector hit in
    c.in_err-i0.ensures.none_near cell.i in_map.column (search rules))

pub returns-in_err-j0-clause-none : goal.returns-in_err-j0-clause-none
returns-in_err-j0-clause-none c = if_none c.from_residual-in_err-j0.result
    (λ cell inside hit.
    let in_map = inside_map c.args.size c.args.part cell c.requires.inside inside in
    let spread = blocked_spread c.args.shape.now c.args.clearance cell c.requires.fits.unit_vector hit in
    c.in_err-j0.ensures.none_near cell.j in_map.row (search rules))

pub returns-clause-blocked : goal.returns-clause-blocked
returns-clause-blocked c =
    common_holds c.intersection.result c.args.part (record { i0 = c.in_ok-i0.i0; j0 = c.in_ok-j0.j0; i1 = c.in_ok-i0.i1; j1 = c.in_ok-j0.j1 })
    (λ cell. IsTrue (blocked c.args.shape.now c.args.clearance cell)) c.intersection.ensures.cells
    (λ cell inside hit.
    let in_map = inside_map c.args.size c.args.part cell c.requires.inside inside in
    let spread = blocked_spread c.args.shape.now c.args.clearance cell c.requires.fits.unit_vector hit in
    let columns = (c.in_ok-i0.ensures.near cell.i in_map.column).1 (search rules) in
    let rows = (c.in_ok-j0.ensures.near cell.j in_map.row).1 (search rules) in
    record { west = columns.0; east = columns.1; south = rows.0; north = rows.1 })

pub returns-clause-none : goal.returns-clause-none
returns-clause-none c =
    common_none c.intersection.result c.args.part (record { i0 = c.in_ok-i0.i0; j0 = c.in_ok-j0.j0; i1 = c.in_ok-i0.i1; j1 = c.in_ok-j0.j1 })
    (λ cell. IsTrue (blocked c.args.shape.now c.args.clearance cell)) c.intersection.ensures.none
    (λ cell inside hit.
    let in_map = inside_map c.args.size c.args.part cell c.requires.inside inside in
    let spread = blocked_spread c.args.shape.now c.args.clearance cell c.requires.fits.unit_vector hit in
    let columns = (c.in_ok-i0.ensures.near cell.i in_map.column).1 (search rules) in
    let rows = (c.in_ok-j0.ensures.near cell.j in_map.row).1 (search rules) in
    record { west = columns.0; east = columns.1; south = rows.0; north = rows.1 })
