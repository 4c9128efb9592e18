-- Circles and obstructions by the points of cells and squares: the nearest point of an interval, and the farther of its ends.
use Rattle.std.proofs.Common.{◌≡◌, ℕ, ◌+◌, ◌-◌, ◌*◌, ◌≤◌, ◌⊎◌, ℤ, pos, negsuc, ◌-ℤ◌, ◌≤ℤ◌, Bool, true, false, ◌||◌, inl, inr, arith, refl, le-leb}
use Rattle.std.specs.Prelude.{◌↔◌, IsTrue, min, unsigned_abs}
use Rattle.std.proofs.lemmas.Bool.{leb-true, or_left, or_right}
use Rattle.std.proofs.lemmas.Int.{ints}
use Rattle.std.proofs.Math.Nat.{mul-le-mul}
use Rattle.nav_types.specs.declared.cells.Cell.{Cell}
use Rattle.fixed_point.specs.Raw.{centre_of}
use Rattle.fixed_point.specs.declared.plane.Rectangle.{Rectangle}
use Rattle.fixed_point.specs.Plane.{square, from_centre, centre_along, centre_across, squared_past}
use Rattle.obstruction_shapes.specs.declared.shapes.Shape.{Shape}
use Rattle.obstruction_shapes.specs.Shapes.{turned_of}
use Rattle.obstruction_shapes.specs.Blocking.{blocked}
use Rattle.goal_shapes.specs.declared.goals.Goal.TheVariants.{Circle, NotCircle, Square}
use Rattle.goal_shapes.specs.Goals.{from_edge, squared_length, is_off_circle, contains, remoteness}
use Rattle.match_laws.specs.CellPoints.{IsInCell, squared_between, IsInRectangle}

-- ---- the nearest of the places that lie no further than a half side from 0

record IsNearest (p : ℤ) (half : ℕ) : Type 0 where
  place : ℤ
  inside : unsigned_abs place ≤ half
  far : unsigned_abs (p -ℤ place) ≤ unsigned_abs p - half

nearest : (p : ℤ) (half : ℕ) → IsNearest p half
nearest (pos n) half = record { place = pos (min n half); inside = omega (arith, ints); far = omega (arith, ints) }
nearest (negsuc n) half =
    record { place = pos 0 -ℤ pos (min (n + 1) half); inside = omega (arith, ints); far = omega (arith, ints) }

no_nearer : (p place : ℤ) (half : ℕ) → unsigned_abs place ≤ half → unsigned_abs p - half ≤ unsigned_abs (p -ℤ place)
no_nearer p place half inside = omega (arith, ints)

squares_le : (a b c d : ℕ) → a ≤ c → b ≤ d → square a + square b ≤ square c + square d
squares_le a b c d first second =
    let left : a * a ≤ c * c = mul-le-mul first first in
    let right : b * b ≤ d * d = mul-le-mul second second in
    omega (arith, left, right)

-- a point of a rectangle about 0 that lies no further than so far from (p, q)
record HasNear (p q : ℤ) (width height most : ℕ) : Type 0 where
  along : ℤ
  across : ℤ
  lengthwise : unsigned_abs along ≤ width
  crosswise : unsigned_abs across ≤ height
  near : squared_length (p -ℤ along) (q -ℤ across) ≤ most

near_point : (p q : ℤ) (width height most : ℕ) → square (unsigned_abs p - width) + square (unsigned_abs q - height) ≤ most → HasNear p q width height most
near_point p q width height most h =
    let a = nearest p width in
    let b = nearest q height in
    let less = squares_le (unsigned_abs (p -ℤ a.place)) (unsigned_abs (q -ℤ b.place)) (unsigned_abs p - width) (unsigned_abs q - height) a.far b.far in
    record { along = a.place; across = b.place; lengthwise = a.inside; crosswise = b.inside; near = omega (arith, less, h) }

near_gap : (p q : ℤ) (width height most : ℕ) → HasNear p q width height most → square (unsigned_abs p - width) + square (unsigned_abs q - height) ≤ most
near_gap p q width height most has =
    let less =
    squares_le (unsigned_abs p - width) (unsigned_abs q - height) (unsigned_abs (p -ℤ has.along)) (unsigned_abs (q -ℤ has.across))
    (no_nearer p has.along width has.lengthwise) (no_nearer q has.across height has.crosswise) in
    let near = has.near in
    omega (arith, less, near)

-- ---- obstructions

pub blocks_near : (shape : Shape) (clearance : ℤ) (cell : Cell)
    → IsTrue (blocked shape clearance cell) ↔ ((along : ℤ) × ((across : ℤ) × (IsInRectangle (turned_of shape) along across
    × (squared_length (centre_along (turned_of shape) cell.i cell.j -ℤ along) (centre_across (turned_of shape) cell.i cell.j -ℤ across)
    ≤ square (65536 * unsigned_abs clearance)))))
unfolding blocked
blocks_near shape clearance cell =
    let r = turned_of shape in
    let p : ℤ = centre_along r cell.i cell.j in
    let q : ℤ = centre_across r cell.i cell.j in
    let width : ℕ = 65536 * unsigned_abs r.hw in
    let height : ℕ = 65536 * unsigned_abs r.hh in
    let most : ℕ = square (65536 * unsigned_abs clearance) in (
      λ h.
          let has = near_point p q width height most (leb-true _ most h) in
          (has.along, (has.across, (record { lengthwise = has.lengthwise; crosswise = has.crosswise }, has.near))),
      λ (along, (across, (inside, near))).
          le-leb _ most (near_gap p q width height most
          (record { along = along; across = across; lengthwise = inside.lengthwise; crosswise = inside.crosswise; near = near })),
    )

-- ---- how remote a cell is from a square

pub square_no_nearer : (rectangle : Rectangle) (cell : Cell) (along across : ℤ) → IsInRectangle rectangle along across
    → remoteness (Square rectangle) cell ≤ squared_length (centre_along rectangle cell.i cell.j -ℤ along) (centre_across rectangle cell.i cell.j -ℤ across)
unfolding remoteness
square_no_nearer r cell along across inside =
    let p : ℤ = centre_along r cell.i cell.j in
    let q : ℤ = centre_across r cell.i cell.j in
    near_gap p q (65536 * unsigned_abs r.hw) (65536 * unsigned_abs r.hh) (squared_length (p -ℤ along) (q -ℤ across))
    (record { along = along; across = across; lengthwise = inside.lengthwise; crosswise = inside.crosswise; near = omega arith })

pub square_nearest : (rectangle : Rectangle) (cell : Cell) → (along : ℤ) × ((across : ℤ) × (IsInRectangle rectangle along across
    × (squared_length (centre_along rectangle cell.i cell.j -ℤ along) (centre_across rectangle cell.i cell.j -ℤ across) ≡ remoteness (Square rectangle) cell)))
unfolding remoteness
square_nearest r cell =
    let p : ℤ = centre_along r cell.i cell.j in
    let q : ℤ = centre_across r cell.i cell.j in
    let has = near_point p q (65536 * unsigned_abs r.hw) (65536 * unsigned_abs r.hh) (squared_past r cell.i cell.j) (omega arith) in
    let inside : IsInRectangle r has.along has.across = record { lengthwise = has.lengthwise; crosswise = has.crosswise } in
    let less : remoteness (Square r) cell ≤ squared_length (p -ℤ has.along) (q -ℤ has.across) = square_no_nearer r cell has.along has.across inside in
    let near : squared_length (p -ℤ has.along) (q -ℤ has.across) ≤ remoteness (Square r) cell = has.near in
    (has.along, (has.across, (inside, omega (arith, less, near))))

-- ---- circles

-- from a coordinate to the place that lies so far west (or south) of a column's (or row's) middle
moved_west : (i : ℕ) (x a : ℤ) → (centre_of i -ℤ a) -ℤ x ≡ from_centre i x -ℤ a
moved_west i x a = omega (arith, ints)

-- and back
from_middle : (i : ℕ) (x px : ℤ) → from_centre i x -ℤ (centre_of i -ℤ px) ≡ px -ℤ x
from_middle i x px = omega (arith, ints)

west_of : (i : ℕ) (a : ℤ) → unsigned_abs a ≤ 32768 → pos (65536 * i) ≤ℤ (centre_of i -ℤ a)
west_of i a h = omega (arith, ints)

east_of : (i : ℕ) (a : ℤ) → unsigned_abs a ≤ 32768 → (centre_of i -ℤ a) ≤ℤ pos (65536 * i + 65536)
east_of i a h = omega (arith, ints)

half_off : (i : ℕ) (px : ℤ) → pos (65536 * i) ≤ℤ px → px ≤ℤ pos (65536 * i + 65536) → unsigned_abs (centre_of i -ℤ px) ≤ 32768
half_off i px h k = omega (arith, ints)

pub circle_points : (x z r : ℤ) (cell : Cell)
    → IsTrue (contains (Circle x z r) cell) ↔ ((px : ℤ) × ((pz : ℤ) × (IsInCell cell px pz × (squared_between x z px pz ≤ square (unsigned_abs r)))))
unfolding contains
circle_points x z r cell =
    let p : ℤ = from_centre cell.i x in
    let q : ℤ = from_centre cell.j z in
    let most : ℕ = square (unsigned_abs r) in (
      λ h.
          let has = near_point p q 32768 32768 most (leb-true _ most h) in
          let near : squared_length ((centre_of cell.i -ℤ has.along) -ℤ x) ((centre_of cell.j -ℤ has.across) -ℤ z) ≤ most =
          rw (moved_west cell.i x has.along, moved_west cell.j z has.across) has.near in (
            centre_of cell.i -ℤ has.along,
            (
              centre_of cell.j -ℤ has.across,
              (
                record {
                  west = west_of cell.i has.along has.lengthwise;
                  east = east_of cell.i has.along has.lengthwise;
                  south = west_of cell.j has.across has.crosswise;
                  north = east_of cell.j has.across has.crosswise;
                },
                near,
              ),
            ),
          ),
      λ (px, (pz, (inside, near))).
          let close : squared_length (p -ℤ (centre_of cell.i -ℤ px)) (q -ℤ (centre_of cell.j -ℤ pz)) ≤ most =
          rw (from_middle cell.i x px, from_middle cell.j z pz) near in
          le-leb _ most (near_gap p q 32768 32768 most
          (record {
            along = centre_of cell.i -ℤ px;
            across = centre_of cell.j -ℤ pz;
            lengthwise = half_off cell.i px inside.west inside.east;
            crosswise = half_off cell.j pz inside.south inside.north;
            near = close;
          })),
    )

-- ---- circles turned inside out

-- the farther end of a column (or row)
farther_end : (i : ℕ) (x px : ℤ) → pos (65536 * i) ≤ℤ px → px ≤ℤ pos (65536 * i + 65536)
    → (unsigned_abs (px -ℤ x) ≤ unsigned_abs (from_edge i x)) ⊎ (unsigned_abs (px -ℤ x) ≤ unsigned_abs (from_edge (i + 1) x))
farther_end i x px h k = grind (arith, ints)

corner_off : (x z r : ℤ) (i j : ℕ) (px pz : ℤ) → unsigned_abs (px -ℤ x) ≤ unsigned_abs (from_edge i x) → unsigned_abs (pz -ℤ z) ≤ unsigned_abs (from_edge j z)
    → square (unsigned_abs r) ≤ squared_between x z px pz → is_off_circle x z r (i, j) ≡ true
corner_off x z r i j px pz h k far =
    let less = squares_le (unsigned_abs (px -ℤ x)) (unsigned_abs (pz -ℤ z)) (unsigned_abs (from_edge i x)) (unsigned_abs (from_edge j z)) h k in
    le-leb (square (unsigned_abs r)) (squared_length (from_edge i x) (from_edge j z)) (omega (arith, less, far))

-- one of four
first_or_later : (a b c d : Bool) → ((a ≡ true) ⊎ (b ≡ true)) ⊎ ((c ≡ true) ⊎ (d ≡ true)) → (a || (b || (c || (d || false)))) ≡ true
first_or_later a b c d (inl (inl h)) = or_left a (b || (c || (d || false))) h
first_or_later a b c d (inl (inr h)) = or_right a (b || (c || (d || false))) (or_left b (c || (d || false)) h)
first_or_later a b c d (inr (inl h)) = or_right a (b || (c || (d || false))) (or_right b (c || (d || false)) (or_left c (d || false) h))
first_or_later a b c d (inr (inr h)) = or_right a (b || (c || (d || false))) (or_right b (c || (d || false)) (or_right c (d || false) (or_left d false h)))

one_of_four : (a b c d : Bool) → (a || (b || (c || (d || false)))) ≡ true → ((a ≡ true) ⊎ (b ≡ true)) ⊎ ((c ≡ true) ⊎ (d ≡ true))
one_of_four true b c d h = inl (inl refl)
one_of_four false true c d h = inl (inr refl)
one_of_four false false true d h = inr (inl refl)
one_of_four false false false true h = inr (inr refl)
one_of_four false false false false h = absurd (cc)

some_corner : (x z r : ℤ) (cell : Cell) (px pz : ℤ) → IsInCell cell px pz → square (unsigned_abs r) ≤ squared_between x z px pz
    → ((is_off_circle x z r (cell.i, cell.j) ≡ true) ⊎ (is_off_circle x z r (cell.i + 1, cell.j) ≡ true))
    ⊎ ((is_off_circle x z r (cell.i, cell.j + 1) ≡ true) ⊎ (is_off_circle x z r (cell.i + 1, cell.j + 1) ≡ true))
some_corner x z r cell px pz inside far =
    by_ends (farther_end cell.i x px inside.west inside.east) (farther_end cell.j z pz inside.south inside.north)
  where
    by_ends : ((unsigned_abs (px -ℤ x) ≤ unsigned_abs (from_edge cell.i x)) ⊎ (unsigned_abs (px -ℤ x) ≤ unsigned_abs (from_edge (cell.i + 1) x)))
        → ((unsigned_abs (pz -ℤ z) ≤ unsigned_abs (from_edge cell.j z)) ⊎ (unsigned_abs (pz -ℤ z) ≤ unsigned_abs (from_edge (cell.j + 1) z)))
        → ((is_off_circle x z r (cell.i, cell.j) ≡ true) ⊎ (is_off_circle x z r (cell.i + 1, cell.j) ≡ true))
        ⊎ ((is_off_circle x z r (cell.i, cell.j + 1) ≡ true) ⊎ (is_off_circle x z r (cell.i + 1, cell.j + 1) ≡ true))
    by_ends (inl h) (inl k) = inl (inl (corner_off x z r cell.i cell.j px pz h k far))
    by_ends (inr h) (inl k) = inl (inr (corner_off x z r (cell.i + 1) cell.j px pz h k far))
    by_ends (inl h) (inr k) = inr (inl (corner_off x z r cell.i (cell.j + 1) px pz h k far))
    by_ends (inr h) (inr k) = inr (inr (corner_off x z r (cell.i + 1) (cell.j + 1) px pz h k far))

-- a corner that lies off is a point of the cell
record HasFar (x z r : ℤ) (cell : Cell) : Type 0 where
  px : ℤ
  pz : ℤ
  inside : IsInCell cell px pz
  far : square (unsigned_abs r) ≤ squared_between x z px pz

at_corner : (x z r : ℤ) (cell : Cell) (i j : ℕ) → cell.i ≤ i → i ≤ cell.i + 1 → cell.j ≤ j → j ≤ cell.j + 1 → is_off_circle x z r (i, j) ≡ true → HasFar x z r cell
at_corner x z r cell i j west east south north off = record {
  px = pos (65536 * i);
  pz = pos (65536 * j);
  inside = record { west = omega (arith, ints); east = omega (arith, ints); south = omega (arith, ints); north = omega (arith, ints) };
  far = leb-true (square (unsigned_abs r)) (squared_length (from_edge i x) (from_edge j z)) off;
}

far_corner : (x z r : ℤ) (cell : Cell)
    → ((is_off_circle x z r (cell.i, cell.j) ≡ true) ⊎ (is_off_circle x z r (cell.i + 1, cell.j) ≡ true))
    ⊎ ((is_off_circle x z r (cell.i, cell.j + 1) ≡ true) ⊎ (is_off_circle x z r (cell.i + 1, cell.j + 1) ≡ true)) → HasFar x z r cell
far_corner x z r cell (inl (inl h)) = at_corner x z r cell cell.i cell.j (omega arith) (omega arith) (omega arith) (omega arith) h
far_corner x z r cell (inl (inr h)) = at_corner x z r cell (cell.i + 1) cell.j (omega arith) (omega arith) (omega arith) (omega arith) h
far_corner x z r cell (inr (inl h)) = at_corner x z r cell cell.i (cell.j + 1) (omega arith) (omega arith) (omega arith) (omega arith) h
far_corner x z r cell (inr (inr h)) = at_corner x z r cell (cell.i + 1) (cell.j + 1) (omega arith) (omega arith) (omega arith) (omega arith) h

pub inside_out_points : (x z r : ℤ) (cell : Cell)
    → IsTrue (contains (NotCircle x z r) cell) ↔ ((px : ℤ) × ((pz : ℤ) × (IsInCell cell px pz × (square (unsigned_abs r) ≤ squared_between x z px pz))))
unfolding contains
inside_out_points x z r cell =
    let a = is_off_circle x z r (cell.i, cell.j) in
    let b = is_off_circle x z r (cell.i + 1, cell.j) in
    let c = is_off_circle x z r (cell.i, cell.j + 1) in
    let d = is_off_circle x z r (cell.i + 1, cell.j + 1) in (
      λ h. let has = far_corner x z r cell (one_of_four a b c d h) in (has.px, (has.pz, (has.inside, has.far))),
      λ (px, (pz, (inside, far))). first_or_later a b c d (some_corner x z r cell px pz inside far),
    )
