-- Each goal cell lies in the goal's box.
use Rattle.std.specs.Prelude.{◌≡◌, ℕ, ◌+◌, nat_le, unsigned_abs, IsTrue}
use Rattle.std.proofs.Common.{arith, leb-true, le-leb, refl}
use Rattle.std.proofs.lemmas.Bool.{and_parts, and_from}
use Rattle.nav_types.specs.declared.cells.Cell.{Cell}
use Rattle.fixed_point.specs.Plane.{square}
use Rattle.fixed_point.proofs.Squares.{root_le}
use Rattle.goal_shapes.specs.declared.goals.Goal.{Goal}
use Rattle.goal_shapes.specs.declared.goals.Goal.TheVariants.{Point, Circle, NotCircle, Square, NotSquare}
use Rattle.goal_shapes.specs.Goals.{gap, meets_axes, meets_sides, contains, framed}

-- both parts of a sum of squares are near
both_near : (a b r : ℕ) → IsTrue (nat_le (square a + square b) (square r))
    → (IsTrue (nat_le a r)) × (IsTrue (nat_le b r))
both_near a b r hit = let sum = leb-true (square a + square b) (square r) hit in
    (le-leb a r (root_le a r (omega arith)), le-leb b r (root_le b r (omega arith)))

pub contains_framed : (goal : Goal) (cell : Cell) → IsTrue (contains goal cell) → IsTrue (framed goal cell)
unfolding contains framed
contains_framed (Point x z) cell hit = hit
contains_framed (Circle x z r) cell hit =
    let near = both_near (gap cell.i x) (gap cell.j z) (unsigned_abs r) hit in
    and_from (nat_le (gap cell.i x) (unsigned_abs r)) (nat_le (gap cell.j z) (unsigned_abs r)) near.0 near.1
contains_framed (NotCircle x z r) cell hit = refl
contains_framed (Square rectangle) cell hit = (and_parts (meets_axes rectangle cell) (meets_sides rectangle cell) hit).0
contains_framed (NotSquare rectangle) cell hit = refl
