-- Which cells a shape blocks, and how far it reaches. All numbers are raw: the raw number of a navcell's side is 65536.
use Rattle.std.specs.Prelude.{ℕ, ◌+◌, ◌*◌, ◌/◌, ◌≤◌, Bool, nat_le, ℤ, unsigned_abs}
use Rattle.nav_types.specs.declared.cells.Cell.{Cell}
use Rattle.fixed_point.specs.Plane.{square, squared_past, from_centre}
use Rattle.obstruction_shapes.specs.declared.shapes.Shape.{Shape}
use Rattle.obstruction_shapes.specs.Shapes.{turned_of}

-- the shape blocks the cell with this clearance: the cell's middle is at most the clearance away from the square
unfoldable pub blocked : Shape → ℤ → Cell → Bool
blocked shape clearance cell =
    nat_le (squared_past (turned_of shape) cell.i cell.j) (square (65536 * unsigned_abs clearance))

-- the sum of both half sides and twice the clearance
abbrev pub extent : Shape → ℤ → ℕ
extent shape clearance =
    unsigned_abs (turned_of shape).hw + unsigned_abs (turned_of shape).hh + 2 * unsigned_abs clearance

-- how far from the shape's middle, along either axis, a cell can be blocked: the extent, a 64th of it and the raw
-- number 1
unfoldable pub reach : Shape → ℤ → ℕ
reach shape clearance = let t = extent shape clearance in t + t / 64 + 1

-- the middle of the cell is no further than the reach from the shape's middle, along both axes
pub record IsNear (shape : Shape) (clearance : ℤ) (cell : Cell) : Type 0 where
  pub column : unsigned_abs (from_centre cell.i (turned_of shape).x) ≤ reach shape clearance
  pub row : unsigned_abs (from_centre cell.j (turned_of shape).z) ≤ reach shape clearance
