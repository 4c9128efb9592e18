-- Points and rectangles of the plane. All numbers are raw: the raw number of a navcell's side is 65536.
use Rattle.std.specs.Prelude.{ℕ, ◌+◌, ◌-◌, ◌*◌, ◌^◌, ◌≤◌, Bool, ◌&&◌, nat_le, ℤ, pos, ◌+ℤ◌, ◌-ℤ◌, ◌*ℤ◌, ◌≤ℤ◌, ◌<ℤ◌, int_le, int_lt, unsigned_abs}
use Rattle.fixed_point.specs.Raw.{centre_of}
use Rattle.fixed_point.specs.declared.plane.Rectangle.{Rectangle}

-- n times n
abbrev pub square : ℕ → ℕ
square n = n * n

-- a unit vector, of length 1 within what rounding to whole raw numbers brings: its squared length is 2^32 within 2^25
pub record IsUnitVector (ux uz : ℤ) : Type 0 where
  pub long : 2 ^ 32 ≤ square (unsigned_abs ux) + square (unsigned_abs uz) + 2 ^ 25
  pub short : square (unsigned_abs ux) + square (unsigned_abs uz) ≤ 2 ^ 32 + 2 ^ 25

-- the coordinate lies on a map with `count` navcells along its axis
pub record IsOnAxis (count : ℕ) (x : ℤ) : Type 0 where
  pub low : pos 0 ≤ℤ x
  pub high : x <ℤ pos (65536 * count)

-- a length from 0 to `most` navcells
pub record IsUpTo (most : ℕ) (length : ℤ) : Type 0 where
  pub low : pos 0 ≤ℤ length
  pub high : length ≤ℤ pos (most * 65536)

-- the same as tests that compute: a unit vector, a coordinate on a map, and a length from 0 to `most` navcells
abbrev pub is_unit_vector : ℤ → ℤ → Bool
is_unit_vector ux uz = let squared = square (unsigned_abs ux) + square (unsigned_abs uz) in
    nat_le (2 ^ 32) (squared + 2 ^ 25) && nat_le squared (2 ^ 32 + 2 ^ 25)

abbrev pub is_on_axis : ℕ → ℤ → Bool
is_on_axis count x = int_le (pos 0) x && int_lt x (pos (65536 * count))

abbrev pub is_up_to : ℕ → ℤ → Bool
is_up_to most length = int_le (pos 0) length && int_le length (pos (most * 65536))

-- from a coordinate to the middle of column (or row) i
abbrev pub from_centre : ℕ → ℤ → ℤ
from_centre i x = centre_of i -ℤ x

-- how far a length lies past a half side, and 0 within it, times 65536
abbrev pub beyond : ℤ → ℤ → ℕ
beyond length half = unsigned_abs length - 65536 * unsigned_abs half

-- how far the point that lies (px, pz) from a rectangle's middle is from it along its unit vector, times 65536
abbrev pub along : Rectangle → ℤ → ℤ → ℤ
along rectangle px pz = px *ℤ rectangle.ux +ℤ pz *ℤ rectangle.uz

-- how far it is across the unit vector, times 65536
abbrev pub across : Rectangle → ℤ → ℤ → ℤ
across rectangle px pz = pz *ℤ rectangle.ux -ℤ px *ℤ rectangle.uz

-- how far the middle of the navcell in column i and row j is from a rectangle's along its unit vector, times 65536
abbrev pub centre_along : Rectangle → ℕ → ℕ → ℤ
centre_along rectangle i j = along rectangle (from_centre i rectangle.x) (from_centre j rectangle.z)

-- how far it is across the unit vector, times 65536
abbrev pub centre_across : Rectangle → ℕ → ℕ → ℤ
centre_across rectangle i j = across rectangle (from_centre i rectangle.x) (from_centre j rectangle.z)

-- the squared distance of that middle past the rectangle's sides, and 0 within them, times 2^32
abbrev pub squared_past : Rectangle → ℕ → ℕ → ℕ
squared_past rectangle i j =
    square (beyond (centre_along rectangle i j) rectangle.hw)
    + square (beyond (centre_across rectangle i j) rectangle.hh)
