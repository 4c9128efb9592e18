use Rattle.std.proofs.Common.{◌≡◌, ◌+◌, ◌*◌, ◌<◌, ℕ, sym, subst, ap, ◌∙◌, arith}
use Rattle.std.specs.Prelude.{unsigned_abs}
use Rattle.fixed_point.specs.Plane.{square}
use Rattle.goal_shapes.specs.declared.goals.Goal.{Goal}
use Rattle.goal_shapes.specs.declared.goals.Goal.TheVariants.{Point, Circle, Square}
use Rattle.goal_shapes.specs.Goals.{squared_length}
use Rattle.goal_shapes.specs.Limits.{IsWellFormed}
use Rattle.goal_reach.specs.inner.Remote.{IsLeastBeyond}
use Rattle.goal_reach.proofs.Beyond.{point_beyond, circle_beyond, square_beyond}
use Rattle.goal_reach.proofs.remote.least_remoteness.Goals as goal

pub returns-in-Point : goal.returns-in-Point
returns-in-Point c =
    let k = c.args.rings in
    let value : c.squared.result ≡ square (65536 * (k + 1)) = c.squared.ensures.value ∙ ap (λ (n : ℕ). square (65536 * (n + 1))) c.from.ensures in
    let P : Goal → Type 0 = λ it. IsLeastBeyond it k c.squared.result in
    subst P (sym c.in-Point.is) (subst (IsLeastBeyond (Point c.in-Point.x c.in-Point.z) k) (sym value) (point_beyond c.in-Point.x c.in-Point.z k))

pub returns-in-Circle : goal.returns-in-Circle
returns-in-Circle c =
    let k = c.args.rings in let it = c.in-Circle in let least = c.squared-in-Circle.result in
    let value : least ≡ square (unsigned_abs it.r + (65536 * k + 32768)) =
    c.squared-in-Circle.ensures.value ∙ ap (λ (n : ℕ). square (n + c.width.result)) c.magnitude.ensures.value
    ∙ ap (λ (n : ℕ). square (unsigned_abs it.r + n)) c.width.ensures.value in
    let P : Goal → Type 0 = λ goal. IsLeastBeyond goal k least in
    subst P (sym it.is) (subst (IsLeastBeyond (Circle it.x it.z it.r) k) (sym value) (circle_beyond it.x it.z it.r k))

pub returns-in-Square : goal.returns-in-Square
returns-in-Square c =
    let k = c.args.rings in let s = c.in-Square.rectangle in let least = c.squared_past.result in
    let well : IsWellFormed (Square s) = subst IsWellFormed c.in-Square.is c.requires.goal in
    let long = well.unit_vector.long in
    let positive : 0 < squared_length s.ux s.uz = omega arith in
    let value : least ≡ squared_length s.ux s.uz * square (65536 * k + 32768) =
    c.squared_past.ensures ∙ ap (λ (n : ℕ). squared_length s.ux s.uz * square n) c.width-in-Square.ensures.value in
    let P : Goal → Type 0 = λ goal. IsLeastBeyond goal k least in
    subst P (sym c.in-Square.is) (subst (IsLeastBeyond (Square s) k) (sym value) (square_beyond s k positive))
