use Rattle.std.proofs.Common.{rules, arith, ◌∙◌, ◌≤◌, ◌+◌, ◌^◌, w64, to_z, of_z, unsigned_abs}
use Rattle.std.proofs.lemmas.Option.{IfSome_then}
use Rattle.clearance_raster.proofs.BlockedColumns.{along_near, if_none_then, read_back, small_back}
use Rattle.clearance_raster.proofs.windows.steps_along.Goals as goal

pub returns-clause-blocked : goal.returns-clause-blocked
returns-clause-blocked c = IfSome_then c.steps_near.result c.steps_near.ensures.near
    (λ run near k within hit.
    let slow : unsigned_abs c.slope.result ≤ 2 ^ 51 = omega (arith, c.slope.ensures.bounded) in
    (near k within).1
    (along_near c.args.shape.now c.args.clearance c.args.first c.args.j k (c.scaled.result + c.scaled-2.result)
    (to_z w64 (of_z w64 c.centre_along.result)) (to_z w64 (of_z w64 c.slope.result))
    (read_back c.centre_along.result c.centre_along.ensures.bounded ∙ search rules) (read_back c.slope.result slow ∙ search rules) (search rules) hit))

pub returns-clause-none : goal.returns-clause-none
returns-clause-none c = if_none_then c.steps_near.result c.steps_near.ensures.none
    (λ none k within hit.
    let slow : unsigned_abs c.slope.result ≤ 2 ^ 51 = omega (arith, c.slope.ensures.bounded) in
    none k within
    (along_near c.args.shape.now c.args.clearance c.args.first c.args.j k (c.scaled.result + c.scaled-2.result)
    (to_z w64 (of_z w64 c.centre_along.result)) (to_z w64 (of_z w64 c.slope.result))
    (read_back c.centre_along.result c.centre_along.ensures.bounded ∙ search rules) (read_back c.slope.result slow ∙ search rules) (search rules) hit))

pub overflow_add-most : goal.overflow_add-most
overflow_add-most c = omega (arith, c.scaled.ensures.bounded, c.scaled-2.ensures.bounded)

pub steps_near-requires-clause-start : goal.steps_near-requires-clause-start
steps_near-requires-clause-start c = small_back c.centre_along.result (2 ^ 51) (omega arith) c.centre_along.ensures.bounded

pub steps_near-requires-clause-slope : goal.steps_near-requires-clause-slope
steps_near-requires-clause-slope c = small_back c.slope.result (2 ^ 31) (omega arith) c.slope.ensures.bounded

pub steps_near-requires-clause-most : goal.steps_near-requires-clause-most
steps_near-requires-clause-most c = omega (arith, c.scaled.ensures.bounded, c.scaled-2.ensures.bounded)

pub returns-clause-within : goal.returns-clause-within
returns-clause-within c = IfSome_then c.steps_near.result c.steps_near.ensures.within (λ run is. is.1)
