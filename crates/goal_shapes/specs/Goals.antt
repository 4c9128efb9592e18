-- Goals: their cells, how remote a cell is from them, and their boxes.
-- All numbers are raw: the raw number of a navcell's side is 65536. A place along a unit vector is raw times 65536.
use Rattle.std.specs.Prelude.{◌≡◌, ℕ, ◌+◌, ◌-◌, ◌*◌, ◌^◌, min, Bool, true, ◌&&◌, ◌||◌, nat_le, List, [], ◌∷◌, ℤ, pos, ◌-ℤ◌, unsigned_abs}
use Rattle.std.specs.List.{list_any}
use Rattle.std.specs.Ordering.{int_eq}
use Rattle.nav_types.specs.declared.cells.Cell.{Cell}
use Rattle.fixed_point.specs.Raw.{floor_of}
use Rattle.fixed_point.specs.declared.plane.Rectangle.{Rectangle}
use Rattle.fixed_point.specs.Plane.{square, from_centre, along, across, centre_along, centre_across, squared_past}
use Rattle.goal_shapes.specs.declared.goals.Goal.{Goal}
use Rattle.goal_shapes.specs.declared.goals.Goal.TheVariants.{Point, Circle, NotCircle, Square, NotSquare}

-- ---- points

-- the cell holds the point
pub record HoldsPoint (x z : ℤ) (cell : Cell) : Type 0 where
  pub column : floor_of x ≡ pos cell.i
  pub row : floor_of z ≡ pos cell.j

-- whether it does
abbrev pub holds_point : ℤ → ℤ → Cell → Bool
holds_point x z cell = int_eq (floor_of x) (pos cell.i) && int_eq (floor_of z) (pos cell.j)

-- the columns (or rows) from the one that holds a coordinate to column i
abbrev pub columns_from : ℕ → ℤ → ℕ
columns_from i x = unsigned_abs (pos i -ℤ floor_of x)

-- ---- circles

-- by how much column (or row) i lies away from a coordinate, and 0 where it holds it
abbrev pub gap : ℕ → ℤ → ℕ
gap i x = unsigned_abs (from_centre i x) - 32768

-- from a coordinate to the first edge of column (or row) i
abbrev pub from_edge : ℕ → ℤ → ℤ
from_edge i x = pos (65536 * i) -ℤ x

-- the squared length of the way (px, pz)
abbrev pub squared_length : ℤ → ℤ → ℕ
squared_length px pz = square (unsigned_abs px) + square (unsigned_abs pz)

-- the squared distance of a cell's middle from the point (x, z)
abbrev pub squared_distance : ℤ → ℤ → Cell → ℕ
squared_distance x z cell = squared_length (from_centre cell.i x) (from_centre cell.j z)

-- some point of the cell lies no further than r from the point (x, z)
abbrev pub meets_circle : ℤ → ℤ → ℤ → Cell → Bool
meets_circle x z r cell = nat_le (square (gap cell.i x) + square (gap cell.j z)) (square (unsigned_abs r))

-- the column and the row of the cell lie no further than r from the point (x, z)
abbrev pub is_near_circle : ℤ → ℤ → ℤ → Cell → Bool
is_near_circle x z r cell = nat_le (gap cell.i x) (unsigned_abs r) && nat_le (gap cell.j z) (unsigned_abs r)

-- the four corners of a cell, as numbers of navcells
abbrev pub corners_of : Cell → List (ℕ × ℕ)
corners_of cell = (cell.i, cell.j) ∷ (cell.i + 1, cell.j) ∷ (cell.i, cell.j + 1) ∷ (cell.i + 1, cell.j + 1) ∷ []

-- the corner lies no nearer than r to the point (x, z)
abbrev pub is_off_circle : ℤ → ℤ → ℤ → ℕ × ℕ → Bool
is_off_circle x z r corner =
    nat_le (square (unsigned_abs r)) (squared_length (from_edge corner.0 x) (from_edge corner.1 z))

-- ---- squares

-- an axis of the map separates no square with these half sides from a cell whose middle is p away along the axis,
-- where the square's unit vector has the component `main` along that axis and `other` along the other
unfoldable pub meets_axis : ℤ → ℤ → ℤ → ℤ → ℤ → Bool
meets_axis p main other hw hh = let n = squared_length main other in
    nat_le (unsigned_abs p * n)
    (32768 * n + 65536 * (unsigned_abs hw * unsigned_abs main + unsigned_abs hh * unsigned_abs other))

-- an axis of a square, with this half side along it, separates the square from no cell whose middle has this place
-- along the axis
abbrev pub meets_side : Rectangle → ℤ → ℤ → Bool
meets_side rectangle half length =
    nat_le (unsigned_abs length) (65536 * unsigned_abs half + 32768 * (unsigned_abs rectangle.ux + unsigned_abs rectangle.uz))

-- no axis of the map separates the square and the cell
abbrev pub meets_axes : Rectangle → Cell → Bool
meets_axes rectangle cell =
    meets_axis (from_centre cell.i rectangle.x) rectangle.ux rectangle.uz rectangle.hw rectangle.hh
    && meets_axis (from_centre cell.j rectangle.z) rectangle.uz rectangle.ux rectangle.hw rectangle.hh

-- no axis of the square separates them
abbrev pub meets_sides : Rectangle → Cell → Bool
meets_sides rectangle cell =
    meets_side rectangle rectangle.hw (centre_along rectangle cell.i cell.j)
    && meets_side rectangle rectangle.hh (centre_across rectangle cell.i cell.j)

-- the square meets the cell: no axis of either separates them
abbrev pub meets_square : Rectangle → Cell → Bool
meets_square rectangle cell = meets_axes rectangle cell && meets_sides rectangle cell

-- the corner does not lie within the square, off its rim
abbrev pub is_off_square : Rectangle → ℕ × ℕ → Bool
is_off_square rectangle corner =
    let px = from_edge corner.0 rectangle.x in let pz = from_edge corner.1 rectangle.z in
    nat_le (65536 * unsigned_abs rectangle.hw) (unsigned_abs (along rectangle px pz))
    || nat_le (65536 * unsigned_abs rectangle.hh) (unsigned_abs (across rectangle px pz))

-- how deep a length lies within a half side, and 0 past it, times 65536
abbrev pub within : ℤ → ℤ → ℕ
within length half = 65536 * unsigned_abs half - unsigned_abs length

-- how deep the cell's middle lies within the square's sides: within those that are nearest to it
abbrev pub depth : Rectangle → Cell → ℕ
depth rectangle cell =
    min (within (centre_along rectangle cell.i cell.j) rectangle.hw) (within (centre_across rectangle cell.i cell.j) rectangle.hh)

-- ---- goals

-- the cell is a goal cell: it holds the point, it meets the circle or the square, or some corner of it lies off them
unfoldable pub contains : Goal → Cell → Bool
contains (Point x z) cell = holds_point x z cell
contains (Circle x z r) cell = meets_circle x z r cell
contains (NotCircle x z r) cell = list_any (is_off_circle x z r) (corners_of cell)
contains (Square rectangle) cell = meets_square rectangle cell
contains (NotSquare rectangle) cell = list_any (is_off_square rectangle) (corners_of cell)

-- How remote the cell is from the goal. A point: the squared distance from the cell that holds it. A circle: that of
-- the cell's middle from the circle's, and 2^56 less that where it is turned inside out. A square: the squared distance
-- of the cell's middle past its sides, times 2^32, and how deep it lies within them, times 65536, where it is turned
-- inside out
unfoldable pub remoteness : Goal → Cell → ℕ
remoteness (Point x z) cell = 2 ^ 32 * (square (columns_from cell.i x) + square (columns_from cell.j z))
remoteness (Circle x z r) cell = squared_distance x z cell
remoteness (NotCircle x z r) cell = 2 ^ 56 - squared_distance x z cell
remoteness (Square rectangle) cell = squared_past rectangle cell.i cell.j
remoteness (NotSquare rectangle) cell = depth rectangle cell

-- the cell lies in the goal's box: in the cell that holds the point, no further than the radius from a circle's middle
-- along each axis of the map, where no axis of the map separates it from the square, and anywhere for the others
unfoldable pub framed : Goal → Cell → Bool
framed (Point x z) cell = holds_point x z cell
framed (Circle x z r) cell = is_near_circle x z r cell
framed (Square rectangle) cell = meets_axes rectangle cell
framed _ cell = true
