use Rattle.std.proofs.Common.{◌*ℤ◌, w64}
use Rattle.std.specs.Prelude.{FitsSigned}
use Rattle.std.proofs.lemmas.Int.{to_z-of_z}
use Rattle.fixed_point.proofs.Products.{widened, fits_64}
use Rattle.fixed_point.proofs.raw_product.Goals as goal

pub overflow_mul-result : goal.overflow_mul-result
overflow_mul-result c =
    let first = widened c.args.first c.from.result c.ranges.first c.from.ensures in
    let second = widened c.args.second c.from-2.result c.ranges.second c.from-2.ensures in
    let first_fits : FitsSigned w64 c.from.result = record { sfits = c.from.type_inv } in
    let second_fits : FitsSigned w64 c.from-2.result = record { sfits = c.from-2.type_inv } in
    simp to_z-of_z (rw (first, second) (fits_64 c.args.first c.args.second c.ranges.first c.ranges.second))

pub returns : goal.returns
returns c =
    let first = widened c.args.first c.from.result c.ranges.first c.from.ensures in
    let second = widened c.args.second c.from-2.result c.ranges.second c.from-2.ensures in
    let first_fits : FitsSigned w64 c.from.result = record { sfits = c.from.type_inv } in
    let second_fits : FitsSigned w64 c.from-2.result = record { sfits = c.from-2.type_inv } in
    let fits : FitsSigned w64 (c.from.result *ℤ c.from-2.result) =
    rw (first, second) (fits_64 c.args.first c.args.second c.ranges.first c.ranges.second) in
    simp to_z-of_z (rw (first, second))
