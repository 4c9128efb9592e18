-- Cells and squares as sets of points. All numbers are raw: the raw number of a navcell's side is 65536.
use Rattle.std.specs.Prelude.{ℕ, ◌+◌, ◌*◌, ◌≤◌, ℤ, pos, ◌-ℤ◌, ◌≤ℤ◌, unsigned_abs}
use Rattle.nav_types.specs.declared.cells.Cell.{Cell}
use Rattle.fixed_point.specs.declared.plane.Rectangle.{Rectangle}
use Rattle.goal_shapes.specs.Goals.{squared_length}

-- the point (x, z) lies in the cell or on its rim
pub record IsInCell (cell : Cell) (x z : ℤ) : Type 0 where
  pub west : pos (65536 * cell.i) ≤ℤ x
  pub east : x ≤ℤ pos (65536 * cell.i + 65536)
  pub south : pos (65536 * cell.j) ≤ℤ z
  pub north : z ≤ℤ pos (65536 * cell.j + 65536)

-- the squared distance between the points (x, z) and (px, pz)
abbrev pub squared_between : ℤ → ℤ → ℤ → ℤ → ℕ
squared_between x z px pz = squared_length (px -ℤ x) (pz -ℤ z)

-- the point that lies so far from a rectangle's middle, along its unit vector and across it, times 65536, lies in the
-- rectangle or on its rim
pub record IsInRectangle (rectangle : Rectangle) (along across : ℤ) : Type 0 where
  pub lengthwise : unsigned_abs along ≤ 65536 * unsigned_abs rectangle.hw
  pub crosswise : unsigned_abs across ≤ 65536 * unsigned_abs rectangle.hh
