-- The rectangle of a target: the cells that are framed are those of a rectangle.
use Rattle.std.proofs.Common.{ℕ, ◌≡◌, ◌+◌, ◌*◌, ◌<◌, ◌≤◌, ◌⊎◌, ◌↔◌, ◌&&◌, ◌==◌, Bool, true, ℤ, pos, negsuc, IsTrue, refl, inl, inr, sym, ap, ◌∙◌, arith, leb-true, le-leb}
use Rattle.std.specs.Prelude.{unsigned_abs, nat_le}
use Rattle.std.specs.Ordering.{int_eq}
use Rattle.std.proofs.lemmas.Bool.{cases_lt, and_parts, and_from, eqb-true, eq-eqb}
use Rattle.std.proofs.lemmas.Bool.Decides.{Decides-int_eq}
use Rattle.std.proofs.lemmas.Int.{ints}
use Rattle.std.proofs.Math.Nat.{mul-le-mul_right}
use Rattle.nav_types.specs.declared.cells.Cell.{Cell}
use Rattle.nav_types.specs.declared.cells.Rect.{Rect}
use Rattle.nav_types.specs.declared.cells.Size.{Size}
use Rattle.nav_types.specs.Cells.{IsInside}
use Rattle.nav_types.specs.Frames.{IsFrame}
use Rattle.fixed_point.specs.Raw.{floor_of}
use Rattle.fixed_point.specs.Plane.{from_centre}
use Rattle.goal_shapes.specs.declared.goals.Goal.{Goal}
use Rattle.goal_shapes.specs.declared.goals.Goal.TheVariants.{Point, Circle, NotCircle, Square, NotSquare}
use Rattle.goal_shapes.specs.Goals.{gap, squared_length, meets_axis, framed}
use Rattle.goal_reach.specs.declared.targets.Target.{Target}
use Rattle.goal_reach.specs.declared.targets.Target.TheVariants.{Goal as GoalTarget, Near}
use Rattle.goal_reach.specs.Targets.{framed_by}
use Rattle.answer_laws.proofs.Deciding.{Decided, decided_test, decided_both, BestIn, best_in}
use Rattle.answer_laws.proofs.Distances.{decided_less}
use Rattle.answer_laws.proofs.Listing.{below, in_below}

-- the columns (or rows) that pass the test have no gaps between them
abbrev IsConvex : (ℕ → Bool) → Type 0
IsConvex test = (a b c : ℕ) → a ≤ b → b ≤ c → IsTrue (test a) → IsTrue (test c) → IsTrue (test b)

-- the first and the last of those below a bound
record Span (test : ℕ → Bool) (count : ℕ) : Type 0 where
  low : ℕ
  high : ℕ
  ordered : low ≤ high
  within : high < count
  from_span : (i : ℕ) → low ≤ i → i ≤ high → IsTrue (test i)
  to_span : (i : ℕ) → i < count → IsTrue (test i) → (low ≤ i) × (i ≤ high)

span : (test : ℕ → Bool) → IsConvex test → (count at : ℕ) → at < count → IsTrue (test at) → Span test count
span test convex count at below_count holds =
    let Passes : ℕ → Type 0 = λ i. (i < count) × IsTrue (test i) in
    let decide : (i : ℕ) → Decided (Passes i) = λ i. decided_both (decided_less i count) (decided_test (test i)) in
    let NoMore : ℕ → ℕ → Type 0 = λ a b. a ≤ b in
    let NoLess : ℕ → ℕ → Type 0 = λ a b. b ≤ a in
    let first : BestIn Passes NoMore (below count) = best_in Passes NoMore decide
    (λ a b. elim (cases_lt a b) [ inl less ↦ inl (omega (arith, less)) | inr more ↦ inr more ])
    (λ a b c one two. omega (arith, one, two)) (below count) in
    let last : BestIn Passes NoLess (below count) = best_in Passes NoLess decide
    (λ a b. elim (cases_lt a b) [ inl less ↦ inr (omega (arith, less)) | inr more ↦ inl more ])
    (λ a b c one two. omega (arith, one, two)) (below count) in
    elim first [
      | inr none ↦ absurd (none at (in_below count at below_count) (below_count, holds))
      | inl low ↦ elim last [
        | inr none ↦ absurd (none at (in_below count at below_count) (below_count, holds))
        | inl high ↦ record {
          low = low.0;
          high = high.0;
          ordered = low.1.1 high.0 (in_below count high.0 high.1.0.0) high.1.0;
          within = high.1.0.0;
          from_span = λ i above under. convex low.0 i high.0 above under low.1.0.1 high.1.0.1;
          to_span = λ i less passes.
              (low.1.1 i (in_below count i less) (less, passes), high.1.1 i (in_below count i less) (less, passes));
        }
      ]
    ]

-- the rectangle of a test of columns and a test of rows
frame_of : (columns rows : ℕ → Bool) → IsConvex columns → IsConvex rows → (framing : Cell → Bool)
    → ((cell : Cell) → IsTrue (framing cell) ↔ (IsTrue (columns cell.i) × IsTrue (rows cell.j)))
    → (size : Size) (cell : Cell) → IsInside size cell → IsTrue (framing cell) → (rect : Rect) × IsFrame framing size rect
frame_of columns rows convex_columns convex_rows framing both size cell inside is =
    let here = (both cell).0 is in
    let across = span columns convex_columns size.w cell.i inside.column here.0 in
    let up = span rows convex_rows size.h cell.j inside.row here.1 in (
      record { i0 = across.low; j0 = up.low; i1 = across.high; j1 = up.high },
      record {
        inside = record { columns = across.ordered; rows = up.ordered; last_column = across.within; last_row = up.within };
        exact = λ other within. (
          λ held. (both other).1 (across.from_span other.i held.west held.east, up.from_span other.j held.south held.north),
          λ framed_cell.
              (let parts = (both other).0 framed_cell in
              let column = across.to_span other.i within.column parts.0 in
              let row = up.to_span other.j within.row parts.1 in
              record { west = column.0; east = column.1; south = row.0; north = row.1 }),
        );
      },
    )

-- two tests at once
and_both : (a b : Bool) → IsTrue (a && b) ↔ (IsTrue a × IsTrue b)
and_both a b = (λ t. and_parts a b t, λ both. and_from a b both.0 both.1)

-- ---- what is convex

convex_all : IsConvex (λ i. true)
convex_all a b c low high one other = refl

convex_one : (at : ℕ) → IsConvex (λ i. i == at)
convex_one at a b c low high one other =
    let first = eqb-true a at one in
    let last = eqb-true c at other in
    eq-eqb b at (omega (arith, first, last, low, high))

same_pos : (v : ℤ) (a b c : ℕ) → v ≡ pos a → v ≡ pos c → a ≤ b → b ≤ c → v ≡ pos b
same_pos v a b c first last low high =
    let ends : pos a ≡ pos c = sym first ∙ last in
    let same : a ≡ b = omega (arith, ints, ends, low, high) in
    first ∙ ap pos same

convex_holder : (x : ℤ) → IsConvex (λ i. int_eq (floor_of x) (pos i))
convex_holder x a b c low high one other = (Decides-int_eq (floor_of x) (pos b)).1
    (same_pos (floor_of x) a b c ((Decides-int_eq (floor_of x) (pos a)).0 one) ((Decides-int_eq (floor_of x) (pos c)).0 other) low high)

-- the middle of a column between two others is no further from a coordinate than that of one of these
nearer : (a b c : ℕ) (x : ℤ) → a ≤ b → b ≤ c
    → (unsigned_abs (from_centre b x) ≤ unsigned_abs (from_centre a x)) ⊎ (unsigned_abs (from_centre b x) ≤ unsigned_abs (from_centre c x))
nearer a b c (pos m) low high = elim (cases_lt (unsigned_abs (from_centre a (pos m))) (unsigned_abs (from_centre b (pos m)))) [
  | inr near ↦ inl near
  | inl far ↦ inr (omega (arith, ints, far, low, high))
]
nearer a b c (negsuc m) low high = inr (omega (arith, ints, low, high))

convex_near : (x r : ℤ) → IsConvex (λ i. nat_le (gap i x) (unsigned_abs r))
convex_near x r a b c low high one other =
    let first = leb-true (gap a x) (unsigned_abs r) one in
    let last = leb-true (gap c x) (unsigned_abs r) other in
    elim (nearer a b c x low high) [
      | inl near ↦ le-leb (gap b x) (unsigned_abs r) (omega (arith, near, first))
      | inr near ↦ le-leb (gap b x) (unsigned_abs r) (omega (arith, near, last))
    ]

scaled : (p q n most : ℕ) → p ≤ q → q * n ≤ most → p * n ≤ most
scaled p q n most less fits = let product = mul-le-mul_right n less in omega (arith, product, fits)

convex_met : (x main other hw hh : ℤ) → IsConvex (λ i. meets_axis (from_centre i x) main other hw hh)
unfolding meets_axis
convex_met x main other hw hh a b c low high one last =
    let n = squared_length main other in
    let most = 32768 * n + 65536 * (unsigned_abs hw * unsigned_abs main + unsigned_abs hh * unsigned_abs other) in
    elim (nearer a b c x low high) [
      | inl near ↦ le-leb (unsigned_abs (from_centre b x) * n) most
          (scaled (unsigned_abs (from_centre b x)) (unsigned_abs (from_centre a x)) n most near
          (leb-true (unsigned_abs (from_centre a x) * n) most one))
      | inr near ↦ le-leb (unsigned_abs (from_centre b x) * n) most
          (scaled (unsigned_abs (from_centre b x)) (unsigned_abs (from_centre c x)) n most near
          (leb-true (unsigned_abs (from_centre c x) * n) most last))
    ]

-- ---- goals and targets

goal_frame : (goal : Goal) (size : Size) (cell : Cell) → IsInside size cell → IsTrue (framed goal cell)
    → (rect : Rect) × IsFrame (framed goal) size rect
unfolding framed
goal_frame (Point x z) size cell inside is =
    frame_of (λ i. int_eq (floor_of x) (pos i)) (λ j. int_eq (floor_of z) (pos j)) (convex_holder x) (convex_holder z) (framed (Point x z))
    (λ other. and_both (int_eq (floor_of x) (pos other.i)) (int_eq (floor_of z) (pos other.j))) size cell inside is
goal_frame (Circle x z r) size cell inside is =
    frame_of (λ i. nat_le (gap i x) (unsigned_abs r)) (λ j. nat_le (gap j z) (unsigned_abs r)) (convex_near x r) (convex_near z r) (framed (Circle x z r))
    (λ other. and_both (nat_le (gap other.i x) (unsigned_abs r)) (nat_le (gap other.j z) (unsigned_abs r))) size cell inside is
goal_frame (NotCircle x z r) size cell inside is =
    frame_of (λ i. true) (λ j. true) convex_all convex_all (framed (NotCircle x z r)) (λ other. (λ t. (refl, refl), λ both. refl)) size cell inside is
goal_frame (Square s) size cell inside is =
    frame_of (λ i. meets_axis (from_centre i s.x) s.ux s.uz s.hw s.hh) (λ j. meets_axis (from_centre j s.z) s.uz s.ux s.hw s.hh)
    (convex_met s.x s.ux s.uz s.hw s.hh) (convex_met s.z s.uz s.ux s.hw s.hh) (framed (Square s))
    (λ other. and_both (meets_axis (from_centre other.i s.x) s.ux s.uz s.hw s.hh) (meets_axis (from_centre other.j s.z) s.uz s.ux s.hw s.hh))
    size cell inside is
goal_frame (NotSquare s) size cell inside is =
    frame_of (λ i. true) (λ j. true) convex_all convex_all (framed (NotSquare s)) (λ other. (λ t. (refl, refl), λ both. refl)) size cell inside is

-- a target of which the map has a framed cell has a rectangle
pub target_frame : (target : Target) (size : Size) (cell : Cell) → IsInside size cell → IsTrue (framed_by target cell)
    → (rect : Rect) × IsFrame (framed_by target) size rect
target_frame (GoalTarget goal) size cell inside is = goal_frame goal size cell inside is
target_frame (Near near) size cell inside is =
    frame_of (λ i. i == near.i) (λ j. j == near.j) (convex_one near.i) (convex_one near.j) (framed_by (Near near))
    (λ other. and_both (other.i == near.i) (other.j == near.j)) size cell inside is
