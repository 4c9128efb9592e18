use Rattle.std.proofs.Common.{◌≡◌, ℕ, ℤ, ◌+◌, ◌∙◌, w64, ap, arith}
use Rattle.std.proofs.lemmas.Int.{to_z-of_z}
use Rattle.fixed_point.specs.Plane.{square, beyond, centre_along, centre_across}
use Rattle.fixed_point.proofs.plane.Rectangle.squared_past.Goals as goal

pub returns-clause-value : goal.returns-clause-value
returns-clause-value c =
    let rectangle = c.args.self.now in
    let along : c.past.result ≡ beyond (centre_along rectangle c.args.i c.args.j) rectangle.hw =
    c.past.ensures.value ∙ ap (λ (length : ℤ). beyond length rectangle.hw) (to_z-of_z w64 c.centre_along.result record { sfits = c.centre_along.type_inv } ∙ c.centre_along.ensures.value) in
    let across : c.past-2.result ≡ beyond (centre_across rectangle c.args.i c.args.j) rectangle.hh =
    c.past-2.ensures.value ∙ ap (λ (length : ℤ). beyond length rectangle.hh) (to_z-of_z w64 c.centre_across.result record { sfits = c.centre_across.type_inv } ∙ c.centre_across.ensures.value) in
    ap (λ (n : ℕ). n + c.squared-2.result) (c.squared.ensures.value ∙ ap square along)
    ∙ ap (λ (n : ℕ). square (beyond (centre_along rectangle c.args.i c.args.j) rectangle.hw) + n) (c.squared-2.ensures.value ∙ ap square across)

pub returns-clause-bounded : goal.returns-clause-bounded
returns-clause-bounded c = omega (arith, c.squared.ensures.bounded, c.squared-2.ensures.bounded)

pub overflow_add-result : goal.overflow_add-result
overflow_add-result c = omega (arith, c.squared.ensures.bounded, c.squared-2.ensures.bounded)
