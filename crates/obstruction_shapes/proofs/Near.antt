-- Nothing is blocked out of reach, and the reach grows with the clearance.
use Rattle.std.proofs.Common.{◌*◌, ◌≤◌, ℤ, leb-true, arith}
use Rattle.std.specs.Prelude.{unsigned_abs, IsTrue}
use Rattle.nav_types.specs.declared.cells.Cell.{Cell}
use Rattle.fixed_point.specs.Plane.{square, from_centre, centre_along, centre_across, squared_past}
use Rattle.obstruction_shapes.specs.declared.shapes.Shape.{Shape}
use Rattle.obstruction_shapes.specs.Shapes.{turned_of, HasUnitVector}
use Rattle.obstruction_shapes.specs.Blocking.{blocked, reach, IsNear}
use Rattle.fixed_point.proofs.TurningBack.{column_back, row_back}
use Rattle.obstruction_shapes.proofs.Turning.{near_both}

-- each cell that the shape blocks is near
pub blocked_near : (shape : Shape) (clearance : ℤ) (cell : Cell) → HasUnitVector shape
    → IsTrue (blocked shape clearance cell) → IsNear shape clearance cell
unfolding blocked reach
blocked_near shape clearance cell unit hit =
    let s = turned_of shape in let px = from_centre cell.i s.x in let pz = from_centre cell.j s.z in
    let du = centre_along s cell.i cell.j in let dv = centre_across s cell.i cell.j in
    let near = near_both (unsigned_abs px) (unsigned_abs pz) (unsigned_abs s.ux) (unsigned_abs s.uz) (unsigned_abs du) (unsigned_abs dv)
    (unsigned_abs s.hw) (unsigned_abs s.hh) (unsigned_abs clearance) (column_back px pz s.ux s.uz) (row_back px pz s.ux s.uz)
    unit.long unit.short
    (leb-true (squared_past s cell.i cell.j) (square (65536 * unsigned_abs clearance)) hit) in
    record { column = near.0; row = near.1 }

-- the reach grows with the clearance
reach-rises : (shape : Shape) (clearance greatest : ℤ) → unsigned_abs clearance ≤ unsigned_abs greatest
    → reach shape clearance ≤ reach shape greatest
unfolding reach
reach-rises shape clearance greatest less = omega arith

-- what is near for a clearance is near for each greater one
pub IsNear-rises : (shape : Shape) (clearance greatest : ℤ) (cell : Cell) → unsigned_abs clearance ≤ unsigned_abs greatest
    → IsNear shape clearance cell → IsNear shape greatest cell
IsNear-rises shape clearance greatest cell less near =
    let rises = reach-rises shape clearance greatest less in
    record { column = omega (arith, rises, near.column); row = omega (arith, rises, near.row) }
