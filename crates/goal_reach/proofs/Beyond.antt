-- How remote a cell is at least that lies beyond an edge of a goal's box.
use Rattle.std.proofs.Common.{ℕ, ◌≡◌, ◌+◌, ◌-◌, ◌*◌, ◌<◌, ◌≤◌, ◌⊎◌, inl, inr, subst, refl, arith, leb-true, le-leb, nat_le, ℤ, pos, ◌-ℤ◌}
use Rattle.std.specs.Prelude.{unsigned_abs}
use Rattle.std.specs.Ordering.{int_eq}
use Rattle.std.proofs.lemmas.Int.{ints}
use Rattle.std.proofs.lemmas.Bool.{cases_lt}
use Rattle.std.proofs.lemmas.Bool.Decides.{Decides-int_eq}
use Rattle.std.proofs.Math.Nat.{mul-le-mul, mul-le-mul_right}
use Rattle.fixed_point.specs.Raw.{floor_of}
use Rattle.fixed_point.specs.declared.plane.Rectangle.{Rectangle}
use Rattle.fixed_point.specs.Plane.{square, from_centre, along, across, squared_past}
use Rattle.goal_shapes.specs.declared.goals.Goal.TheVariants.{Point, Circle, Square}
use Rattle.goal_shapes.specs.Goals.{columns_from, gap, squared_length, meets_axis, framed, remoteness}
use Rattle.goal_reach.specs.inner.Remote.{IsLeastBeyond}
use Rattle.goal_reach.proofs.Edges.{IsPast, past_distance, past_edges}
use Rattle.fixed_point.proofs.TurningBack.{column_back, row_back}
use Rattle.goal_reach.proofs.Turned.{reached_sides}

-- ---- points

past_point : (x : ℤ) (k i : ℕ) → IsPast (λ a. int_eq (floor_of x) (pos a)) k i → k + 1 ≤ columns_from i x
past_point x k i (inl (a, (far, (here, off)))) =
    let is = (Decides-int_eq (floor_of x) (pos a)).0 here in
    let h : k + 1 ≤ unsigned_abs (pos i -ℤ pos a) = omega (arith, ints) in rw is h
past_point x k i (inr (a, (far, (here, off)))) =
    let is = (Decides-int_eq (floor_of x) (pos (a + 1))).0 here in
    let h : k + 1 ≤ unsigned_abs (pos i -ℤ pos (a + 1)) = omega (arith, ints) in rw is h

-- ---- circles

past_circle : (x : ℤ) (r k i : ℕ) → IsPast (λ a. nat_le (gap a x) r) k i → r + (65536 * k + 32768) ≤ unsigned_abs (from_centre i x)
past_circle x r k i past =
    let it = past_distance x (λ a. nat_le (gap a x) r) k i (λ b c close off.
    (let h = leb-true (gap b x) r close in
    elim (cases_lt r (gap c x)) [ inl more ↦ omega arith | inr less ↦ absurd (off (le-leb (gap c x) r less)) ])) past in
    let far = it.1.1 in
    elim (cases_lt r (gap it.0 x)) [ inl more ↦ omega arith | inr less ↦ absurd (it.1.0 (le-leb (gap it.0 x) r less)) ]

-- one of two squares is as great as that of a length
one_square : (w a b : ℕ) → (w ≤ a) ⊎ (w ≤ b) → square w ≤ square a + square b
one_square w a b (inl h) = let it = mul-le-mul h h in omega arith
one_square w a b (inr h) = let it = mul-le-mul h h in omega arith

-- ---- squares

past_axis : (x main other hw hh : ℤ) (k i : ℕ) → IsPast (λ a. meets_axis (from_centre a x) main other hw hh) k i
    → (65536 * k + 32768) * squared_length main other + 65536 * (unsigned_abs hw * unsigned_abs main + unsigned_abs hh * unsigned_abs other)
    ≤ unsigned_abs (from_centre i x) * squared_length main other
unfolding meets_axis
past_axis x main other hw hh k i past =
    let n = squared_length main other in
    let extent = 32768 * n + 65536 * (unsigned_abs hw * unsigned_abs main + unsigned_abs hh * unsigned_abs other) in
    let it = past_distance x (λ a. nat_le (unsigned_abs (from_centre a x) * n) extent) k i (λ b c close off.
    (let p = unsigned_abs (from_centre b x) in let q = unsigned_abs (from_centre c x) in
    let h = leb-true (p * n) extent close in
    elim (cases_lt p q) [ inl less ↦ less | inr more ↦ (let shorter : q * n ≤ p * n = mul-le-mul_right n more in absurd (off (le-leb (q * n) extent (omega arith)))) ])) past in
    let q = unsigned_abs (from_centre it.0 x) in let p = unsigned_abs (from_centre i x) in
    let far : (q + 65536 * k) * n ≤ p * n = mul-le-mul_right n it.1.1 in
    elim (cases_lt extent (q * n)) [ inl more ↦ omega arith | inr less ↦ absurd (it.1.0 (le-leb (q * n) extent less)) ]

-- a cell past an edge of a square's box along one axis of the map or the other
past_square : (rectangle : Rectangle) (k i j : ℕ) → 0 < squared_length rectangle.ux rectangle.uz
    → IsPast (λ a. meets_axis (from_centre a rectangle.x) rectangle.ux rectangle.uz rectangle.hw rectangle.hh) k i
    ⊎ IsPast (λ a. meets_axis (from_centre a rectangle.z) rectangle.uz rectangle.ux rectangle.hw rectangle.hh) k j
    → squared_length rectangle.ux rectangle.uz * square (65536 * k + 32768) ≤ squared_past rectangle i j
past_square s k i j positive (inl past) =
    let px = from_centre i s.x in let pz = from_centre j s.z in
    let p = unsigned_abs px in let u = unsigned_abs s.ux in let v = unsigned_abs s.uz in
    let d = unsigned_abs (along s px pz) in let e = unsigned_abs (across s px pz) in
    reached_sides (squared_length s.ux s.uz) (65536 * k + 32768) p u v d e (unsigned_abs s.hw) (unsigned_abs s.hh) positive refl
    (past_axis s.x s.ux s.uz s.hw s.hh k i past) (column_back px pz s.ux s.uz)
past_square s k i j positive (inr past) =
    let px = from_centre i s.x in let pz = from_centre j s.z in
    let p = unsigned_abs pz in let u = unsigned_abs s.uz in let v = unsigned_abs s.ux in
    let d = unsigned_abs (along s px pz) in let e = unsigned_abs (across s px pz) in
    let n = squared_length s.uz s.ux in
    let order : n ≡ squared_length s.ux s.uz = omega arith in
    let sides = past_axis s.z s.uz s.ux s.hw s.hh k j past in
    let it : n * square (65536 * k + 32768) ≤ square (d - 65536 * unsigned_abs s.hw) + square (e - 65536 * unsigned_abs s.hh) =
    reached_sides n (65536 * k + 32768) p u v d e (unsigned_abs s.hw) (unsigned_abs s.hh) (omega arith) refl sides
    (row_back px pz s.ux s.uz) in
    subst (λ (t : ℕ). t * square (65536 * k + 32768) ≤ squared_past s i j) order it

-- ---- goals

pub point_beyond : (x z : ℤ) (k : ℕ) → IsLeastBeyond (Point x z) k (square (65536 * (k + 1)))
unfolding framed remoteness
point_beyond x z k size frame cell box inside off =
    let columns = columns_from cell.i x in let rows = columns_from cell.j z in
    let far : (k + 1 ≤ columns) ⊎ (k + 1 ≤ rows) = elim (past_edges (λ i. int_eq (floor_of x) (pos i)) (λ j. int_eq (floor_of z) (pos j)) size frame k cell box inside off) [
      | inl past ↦ inl (past_point x k cell.i past)
      | inr past ↦ inr (past_point z k cell.j past)
    ] in
    let squares = one_square (k + 1) columns rows far in omega arith

pub circle_beyond : (x z r : ℤ) (k : ℕ) → IsLeastBeyond (Circle x z r) k (square (unsigned_abs r + (65536 * k + 32768)))
unfolding framed remoteness
circle_beyond x z r k size frame cell box inside off =
    let width = unsigned_abs r + (65536 * k + 32768) in
    let px = unsigned_abs (from_centre cell.i x) in let pz = unsigned_abs (from_centre cell.j z) in
    let far : (width ≤ px) ⊎ (width ≤ pz) =
    elim (past_edges (λ i. nat_le (gap i x) (unsigned_abs r)) (λ j. nat_le (gap j z) (unsigned_abs r)) size frame k cell box inside off) [
      | inl past ↦ inl (past_circle x (unsigned_abs r) k cell.i past)
      | inr past ↦ inr (past_circle z (unsigned_abs r) k cell.j past)
    ] in
    one_square width px pz far

pub square_beyond : (rectangle : Rectangle) (k : ℕ) → 0 < squared_length rectangle.ux rectangle.uz
    → IsLeastBeyond (Square rectangle) k (squared_length rectangle.ux rectangle.uz * square (65536 * k + 32768))
unfolding framed remoteness
square_beyond s k positive size frame cell box inside off =
    past_square s k cell.i cell.j positive
    (past_edges (λ i. meets_axis (from_centre i s.x) s.ux s.uz s.hw s.hh) (λ j. meets_axis (from_centre j s.z) s.uz s.ux s.hw s.hh) size frame k cell box inside off)
