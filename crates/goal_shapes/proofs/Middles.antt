-- The cell that holds the middle of a goal.
use Rattle.std.proofs.Common.{◌≡◌, ◌+◌, ◌*◌, ◌/◌, ◌≤◌, ℕ, ℤ, pos, negsuc, ◌+ℤ◌, ◌-ℤ◌, ◌*ℤ◌, ◌&&◌, arith, le-leb}
use Rattle.std.specs.Prelude.{unsigned_abs, IsTrue}
use Rattle.std.specs.Ordering.{int_eq}
use Rattle.std.proofs.lemmas.Bool.{and_from}
use Rattle.std.proofs.lemmas.Bool.Decides.{Decides-int_eq}
use Rattle.std.proofs.lemmas.Int.{ints, unsigned_abs-mul}
use Rattle.std.proofs.Math.Nat.{mul-le-mul_right}
use Rattle.nav_types.specs.declared.cells.Cell.{Cell}
use Rattle.fixed_point.specs.Raw.{floor_of}
use Rattle.fixed_point.specs.declared.plane.Rectangle.{Rectangle}
use Rattle.fixed_point.specs.Plane.{square, from_centre, along, across}
use Rattle.goal_shapes.specs.Goals.{HoldsPoint, holds_point, gap, squared_length, meets_axis, meets_side, meets_circle, meets_square}

pub is_held : (x z : ℤ) (cell : Cell) → HoldsPoint x z cell → IsTrue (holds_point x z cell)
is_held x z cell h =
    and_from (int_eq (floor_of x) (pos cell.i)) (int_eq (floor_of z) (pos cell.j))
    ((Decides-int_eq (floor_of x) (pos cell.i)).1 h.column) ((Decides-int_eq (floor_of z) (pos cell.j)).1 h.row)

-- the middle of the column that holds a coordinate lies no further than half a navcell from it
pub half_away : (i : ℕ) (x : ℤ) → floor_of x ≡ pos i → unsigned_abs (from_centre i x) ≤ 32768
half_away i (pos m) e = let same : m / 65536 ≡ i = cc in omega (arith, ints)
half_away i (negsuc m) e = cc

pub circle_met : (x z r : ℤ) (cell : Cell) → HoldsPoint x z cell → IsTrue (meets_circle x z r cell)
circle_met x z r cell h =
    let column = half_away cell.i x h.column in let row = half_away cell.j z h.row in
    let no_column : gap cell.i x ≡ 0 = omega arith in let no_row : gap cell.j z ≡ 0 = omega arith in
    rw (no_column, no_row) (le-leb 0 (square (unsigned_abs r)) (omega arith))

pub axis_met : (p main other hw hh : ℤ) → unsigned_abs p ≤ 32768 → IsTrue (meets_axis p main other hw hh)
unfolding meets_axis
axis_met p main other hw hh near =
    let n = squared_length main other in
    let half : unsigned_abs p * n ≤ 32768 * n = mul-le-mul_right n near in
    le-leb (unsigned_abs p * n) (32768 * n + 65536 * (unsigned_abs hw * unsigned_abs main + unsigned_abs hh * unsigned_abs other)) (omega arith)

sum_le : (a b : ℤ) → unsigned_abs (a +ℤ b) ≤ unsigned_abs a + unsigned_abs b
sum_le a b = omega (arith, ints)

difference_le : (a b : ℤ) → unsigned_abs (a -ℤ b) ≤ unsigned_abs a + unsigned_abs b
difference_le a b = omega (arith, ints)

product_le : (p u : ℤ) → unsigned_abs p ≤ 32768 → unsigned_abs (p *ℤ u) ≤ 32768 * unsigned_abs u
product_le p u near = rw (unsigned_abs-mul p u) (mul-le-mul_right (unsigned_abs u) near)

pub along_le : (rectangle : Rectangle) (px pz : ℤ) → unsigned_abs px ≤ 32768 → unsigned_abs pz ≤ 32768
    → unsigned_abs (along rectangle px pz) ≤ 32768 * (unsigned_abs rectangle.ux + unsigned_abs rectangle.uz)
along_le s px pz column row =
    let first = product_le px s.ux column in let second = product_le pz s.uz row in
    let sum = sum_le (px *ℤ s.ux) (pz *ℤ s.uz) in omega arith

pub across_le : (rectangle : Rectangle) (px pz : ℤ) → unsigned_abs px ≤ 32768 → unsigned_abs pz ≤ 32768
    → unsigned_abs (across rectangle px pz) ≤ 32768 * (unsigned_abs rectangle.ux + unsigned_abs rectangle.uz)
across_le s px pz column row =
    let first = product_le pz s.ux row in let second = product_le px s.uz column in
    let sum = difference_le (pz *ℤ s.ux) (px *ℤ s.uz) in omega arith

pub side_met : (rectangle : Rectangle) (half length : ℤ)
    → unsigned_abs length ≤ 32768 * (unsigned_abs rectangle.ux + unsigned_abs rectangle.uz) → IsTrue (meets_side rectangle half length)
side_met s half length near =
    le-leb (unsigned_abs length) (65536 * unsigned_abs half + 32768 * (unsigned_abs s.ux + unsigned_abs s.uz)) (omega arith)

pub square_met : (rectangle : Rectangle) (cell : Cell) → HoldsPoint rectangle.x rectangle.z cell → IsTrue (meets_square rectangle cell)
square_met s cell h =
    let px = from_centre cell.i s.x in let pz = from_centre cell.j s.z in
    let column : unsigned_abs px ≤ 32768 = half_away cell.i s.x h.column in
    let row : unsigned_abs pz ≤ 32768 = half_away cell.j s.z h.row in
    let du = along s px pz in let dv = across s px pz in
    and_from (meets_axis px s.ux s.uz s.hw s.hh && meets_axis pz s.uz s.ux s.hw s.hh) (meets_side s s.hw du && meets_side s s.hh dv)
    (and_from (meets_axis px s.ux s.uz s.hw s.hh) (meets_axis pz s.uz s.ux s.hw s.hh)
    (axis_met px s.ux s.uz s.hw s.hh column) (axis_met pz s.uz s.ux s.hw s.hh row))
    (and_from (meets_side s s.hw du) (meets_side s s.hh dv) (side_met s s.hw du (along_le s px pz column row))
    (side_met s s.hh dv (across_le s px pz column row)))
