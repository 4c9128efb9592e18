-- The cell that holds a point.
use Rattle.std.proofs.Common.{ℤ, Bool, ◌≡◌, ◌⊎◌, IsTrue, inl, inr}
use Rattle.std.proofs.lemmas.Bool.{both_ways}
use Rattle.nav_types.specs.declared.cells.Cell.{Cell}
use Rattle.goal_shapes.specs.Goals.{HoldsPoint, squared_distance}
use Rattle.goal_reach.specs.Starts.{IsStartCell, IsBlockedAt, IsNearestPassable}
use Rattle.nav_types.proofs.CellOrder.{same_cell}
use Rattle.goal_reach.proofs.Choosing.{one_least}

-- one cell holds a point
pub one_holder : (x z : ℤ) (a b : Cell) → HoldsPoint x z a → HoldsPoint x z b → a ≡ b
one_holder x z a b p q =
    let row = p.row in let row' = q.row in let column = p.column in let column' = q.column in
    same_cell a b (cc) (cc)

one_of_two : (passes : Cell → Bool) (x z : ℤ) (a b : Cell) → IsTrue (passes a) → IsTrue (passes b)
    → HoldsPoint x z a ⊎ (IsBlockedAt passes x z × IsNearestPassable passes x z a) → HoldsPoint x z b ⊎ (IsBlockedAt passes x z × IsNearestPassable passes x z b) → a ≡ b
one_of_two passes x z a b free free' (inl p) (inl q) = one_holder x z a b p q
one_of_two passes x z a b free free' (inl p) (inr (blocked, near)) = absurd (both_ways (passes a) (blocked a p) free)
one_of_two passes x z a b free free' (inr (blocked, near)) (inl q) = absurd (both_ways (passes b) (blocked b q) free')
one_of_two passes x z a b free free' (inr (_, p)) (inr (_, q)) = one_least (squared_distance x z) (λ cell. IsTrue (passes cell)) a b p q

-- a point has one start cell
pub one_start : (passes : Cell → Bool) (x z : ℤ) (a b : Cell) → IsStartCell passes x z a → IsStartCell passes x z b → a ≡ b
one_start passes x z a b p q = one_of_two passes x z a b p.passable q.passable p.nearest q.nearest
