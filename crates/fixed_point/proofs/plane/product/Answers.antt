use Rattle.std.proofs.Common.{◌≡◌, ◌≤◌, ◌^◌, ◌∙◌, ℤ, ◌*ℤ◌, w64, sym, subst, ap}
use Rattle.std.specs.Prelude.{unsigned_abs, FitsSigned}
use Rattle.std.proofs.lemmas.Int.{to_z-of_z}
use Rattle.fixed_point.proofs.Products.{widened, turned_fits, turned_bounded}
use Rattle.fixed_point.proofs.plane.product.Goals as goal

pub overflow_mul-result : goal.overflow_mul-result
overflow_mul-result c =
    let same : c.from.result ≡ c.args.component = widened c.raw.result c.from.result record { sfits = c.raw.type_inv } c.from.ensures ∙ c.raw.ensures.value in
    let component = subst (λ (z : ℤ). unsigned_abs z ≤ 2 ^ 17) (sym same) c.requires.component in
    let length_fits : FitsSigned w64 c.args.length = c.ranges.length in
    let component_fits : FitsSigned w64 c.from.result = record { sfits = c.from.type_inv } in
    simp to_z-of_z (turned_fits c.args.length c.from.result c.requires.length component)

pub returns-clause-value : goal.returns-clause-value
returns-clause-value c =
    let same : c.from.result ≡ c.args.component = widened c.raw.result c.from.result record { sfits = c.raw.type_inv } c.from.ensures ∙ c.raw.ensures.value in
    let component = subst (λ (z : ℤ). unsigned_abs z ≤ 2 ^ 17) (sym same) c.requires.component in
    let length_fits : FitsSigned w64 c.args.length = c.ranges.length in
    let component_fits : FitsSigned w64 c.from.result = record { sfits = c.from.type_inv } in
    let fits : FitsSigned w64 (c.args.length *ℤ c.from.result) = turned_fits c.args.length c.from.result c.requires.length component in
    simp to_z-of_z (ap (λ (z : ℤ). c.args.length *ℤ z) same)

pub returns-clause-bounded : goal.returns-clause-bounded
returns-clause-bounded c =
    let same : c.from.result ≡ c.args.component = widened c.raw.result c.from.result record { sfits = c.raw.type_inv } c.from.ensures ∙ c.raw.ensures.value in
    let component = subst (λ (z : ℤ). unsigned_abs z ≤ 2 ^ 17) (sym same) c.requires.component in
    let length_fits : FitsSigned w64 c.args.length = c.ranges.length in
    let component_fits : FitsSigned w64 c.from.result = record { sfits = c.from.type_inv } in
    let fits : FitsSigned w64 (c.args.length *ℤ c.from.result) = turned_fits c.args.length c.from.result c.requires.length component in
    simp to_z-of_z (turned_bounded c.args.length c.from.result c.requires.length component)
