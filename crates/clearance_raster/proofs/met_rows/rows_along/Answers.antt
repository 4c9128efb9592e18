use Rattle.std.proofs.Common.{rules, arith, ◌∙◌, ◌≤◌, ◌+◌, ◌^◌, w64, to_z, of_z, unsigned_abs}
use Rattle.std.proofs.lemmas.Option.{IfSome_then}
use Rattle.obstruction_shapes.specs.Shapes.{turned_of}
use Rattle.clearance_raster.proofs.BlockedColumns.{if_none_then, read_back, small_back}
use Rattle.clearance_raster.proofs.BlockedRows.{along_near_row}
use Rattle.clearance_raster.proofs.met_rows.rows_along.Goals as goal

pub returns-clause-blocked : goal.returns-clause-blocked
returns-clause-blocked c = IfSome_then c.steps_near.result c.steps_near.ensures.near
    (λ run near i k west east within hit.
    let slow : unsigned_abs c.slope.result ≤ 2 ^ 51 = omega (arith, c.slope.ensures.bounded) in
    (near k within).1
    (along_near_row c.args.shape.now c.args.clearance c.args.rect.i0 c.args.rect.i1 c.args.rect.j0 i k
    (c.scaled.result + c.scaled-2.result + c.change.result) (unsigned_abs (turned_of c.args.shape.now).ux)
    (to_z w64 (of_z w64 c.centre_along.result)) (to_z w64 (of_z w64 c.slope.result))
    (read_back c.centre_along.result c.centre_along.ensures.bounded ∙ search rules) (read_back c.slope.result slow ∙ search rules)
    (search rules) west east (search rules) hit))

pub returns-clause-none : goal.returns-clause-none
returns-clause-none c = if_none_then c.steps_near.result c.steps_near.ensures.none
    (λ none i k west east within hit.
    let slow : unsigned_abs c.slope.result ≤ 2 ^ 51 = omega (arith, c.slope.ensures.bounded) in
    none k within
    (along_near_row c.args.shape.now c.args.clearance c.args.rect.i0 c.args.rect.i1 c.args.rect.j0 i k
    (c.scaled.result + c.scaled-2.result + c.change.result) (unsigned_abs (turned_of c.args.shape.now).ux)
    (to_z w64 (of_z w64 c.centre_along.result)) (to_z w64 (of_z w64 c.slope.result))
    (read_back c.centre_along.result c.centre_along.ensures.bounded ∙ search rules) (read_back c.slope.result slow ∙ search rules)
    (search rules) west east (search rules) hit))

pub overflow_add-most : goal.overflow_add-most
overflow_add-most c = omega (arith, c.scaled.ensures.bounded, c.scaled-2.ensures.bounded)

pub steps_near-requires-clause-start : goal.steps_near-requires-clause-start
steps_near-requires-clause-start c = small_back c.centre_along.result (2 ^ 51) (omega arith) c.centre_along.ensures.bounded

pub steps_near-requires-clause-slope : goal.steps_near-requires-clause-slope
steps_near-requires-clause-slope c = small_back c.slope.result (2 ^ 31) (omega arith) c.slope.ensures.bounded

pub steps_near-requires-clause-most : goal.steps_near-requires-clause-most
steps_near-requires-clause-most c = omega (arith, c.scaled.ensures.bounded, c.scaled-2.ensures.bounded, c.change.ensures.bounded)

pub returns-clause-within : goal.returns-clause-within
returns-clause-within c = IfSome_then c.steps_near.result c.steps_near.ensures.within (λ run is. is.1)
