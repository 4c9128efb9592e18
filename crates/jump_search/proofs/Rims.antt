-- The way out of a disc in which no cell is looked for is an estimate.
use Rattle.std.proofs.Common.{ℕ, suc, ◌≡◌, ◌+◌, ◌-◌, ◌*◌, ◌<◌, ◌≤◌, ◌⊎◌, inl, inr, ap, subst, arith, Bool, IsTrue, ℤ}
use Rattle.std.specs.Prelude.{unsigned_abs}
use Rattle.std.proofs.lemmas.Int.{ints}
use Rattle.std.proofs.lemmas.Bool.{cases_lt}
use Rattle.std.proofs.Math.Nat.{mul-le-mul}
use Rattle.nav_types.specs.declared.limits.TheConstants.{DIAGONAL_COST}
use Rattle.nav_types.specs.declared.cells.Cell.{Cell}
use Rattle.nav_types.specs.declared.cells.Size.{Size}
use Rattle.nav_types.specs.declared.directions.Dir.{Dir}
use Rattle.nav_types.specs.Cells.{IsInside}
use Rattle.nav_types.specs.Directions.{Leads, step_cost}
use Rattle.fixed_point.specs.Plane.{square}
use Rattle.jump_search.specs.declared.rooms.Disc.{Disc}
use Rattle.jump_search.specs.Estimates.{IsEstimate, root, farther_edge, cost_to_rim}
use Rattle.jump_search.proofs.Roots.{root_is, root_le, below_root, above_root}
use Rattle.jump_search.proofs.WaysOut.{short, one_way, whole_estimate}

-- ---- along a step the distance grows by no more than the step costs

straight_square : (s n m a c : ℕ) → n < square (suc s) → m + square a ≡ n + square c → a ≤ s
    → square c ≤ square (a + 65536) → m < square (suc s + 65536)
straight_square s n m a c high change less long = omega (arith, high, change, less, long)

-- where one of the sides alone grows, as along a straight step
straight : (n m a c : ℕ) → m + square a ≡ n + square c → square a ≤ n → c ≤ a + 65536 → root m ≤ root n + 65536
straight n m a c change part more =
    let less = below_root n a part in
    let high = (root_is n).1 in
    let long : square c ≤ square (a + 65536) = mul-le-mul more more in
    let next = above_root m (suc (root n) + 65536) (straight_square (root n) n m a c high change less long) in
    omega (arith, next)

product_apart : (a d : ℕ) → 2 * (a * (a + d)) ≤ square a + square (a + d)
product_apart a d = omega arith

-- twice a product is no more than the sum of the squares
twice_product : (a b : ℕ) → 2 * (a * b) ≤ square a + square b
twice_product a b = elim (cases_lt a b) [
  | inl less ↦ (let is : a + (b - a) ≡ b = omega (arith, less) in
      subst (λ (n : ℕ). 2 * (a * n) ≤ square a + square n) is (product_apart a (b - a)))
  | inr more ↦ (let is : b + (a - b) ≡ a = omega (arith, more) in
      let turned = subst (λ (n : ℕ). 2 * (b * n) ≤ square b + square n) is (product_apart b (a - b)) in omega (arith, turned))
]

sides_squared : (a b t : ℕ) → 2 * (a * b) ≤ square a + square b → square a + square b ≤ square t
    → square (65536 * (a + b)) ≤ square (92682 * t)
sides_squared a b t twice high = omega (arith, twice, high)

diagonal_sum : (t a b c d : ℕ) → square a + square b < square t → 65536 * (a + b) ≤ 92682 * t
    → c ≤ a + 65536 → d ≤ b + 65536 → square c + square d < square (t + 92682)
diagonal_sum t a b c d high sides column row =
    let columns : c * c ≤ (a + 65536) * (a + 65536) = mul-le-mul column column in
    let rows : d * d ≤ (b + 65536) * (b + 65536) = mul-le-mul row row in
    omega (arith, columns, rows, high, sides)

-- along a diagonal one
diagonal : (a b c d : ℕ) → c ≤ a + 65536 → d ≤ b + 65536
    → root (square c + square d) ≤ root (square a + square b) + 92682
diagonal a b c d column row =
    let n = square a + square b in
    let t = suc (root n) in
    let high = (root_is n).1 in
    let sides = root_le (65536 * (a + b)) (92682 * t) (sides_squared a b t (twice_product a b) (omega (arith, high))) in
    let next = above_root (square c + square d) (t + 92682) (diagonal_sum t a b c d high sides column row) in
    omega (arith, next)

-- ---- the estimate

farther : (i k : ℕ) (x : ℤ) → k ≤ i + 1 → i ≤ k + 1 → farther_edge k x ≤ farther_edge i x + 65536
farther i k x less more = omega (arith, ints)

left_over : (cost r p q : ℕ) → q ≤ p + cost → r - p ≤ cost + (r - q)
left_over cost r p q less = omega (arith, less)

dearer : (n cost p q : ℕ) → n ≤ cost → q ≤ p + n → q ≤ p + cost
dearer n cost p q dear less = omega (arith, dear, less)

-- how a step changes the sides
grows : (a b c d cost : ℕ) → c ≤ a + 65536 → d ≤ b + 65536 → 65536 ≤ cost → ((c ≡ a) ⊎ (d ≡ b)) ⊎ (92682 ≤ cost)
    → root (square c + square d) ≤ root (square a + square b) + cost
grows a b c d cost column row dear (inl (inl same)) =
    let n = square a + square b in let m = square c + square d in
    let sides : square c ≡ square a = ap square same in
    dearer 65536 cost (root n) (root m) dear (straight n m b d (omega (arith, sides)) (omega arith) row)
grows a b c d cost column row dear (inl (inr same)) =
    let n = square a + square b in let m = square c + square d in
    let sides : square d ≡ square b = ap square same in
    dearer 65536 cost (root n) (root m) dear (straight n m a c (omega (arith, sides)) (omega arith) column)
grows a b c d cost column row dear (inr more) =
    dearer 92682 cost (root (square a + square b)) (root (square c + square d)) more (diagonal a b c d column row)

-- a side stays where its column or row does
kept_sides : (from to : Cell) (x z : ℤ) (cost : ℕ) → ((to.i ≡ from.i) ⊎ (to.j ≡ from.j)) ⊎ (DIAGONAL_COST ≤ cost)
    → ((farther_edge to.i x ≡ farther_edge from.i x) ⊎ (farther_edge to.j z ≡ farther_edge from.j z)) ⊎ (92682 ≤ cost)
kept_sides from to x z cost (inl (inl same)) = inl (inl (ap (λ (n : ℕ). farther_edge n x) same))
kept_sides from to x z cost (inl (inr same)) = inl (inr (ap (λ (n : ℕ). farther_edge n z) same))
kept_sides from to x z cost (inr dear) = inr dear

falls_to_rim : (disc : Disc) (dir : Dir) (from to : Cell) → Leads dir from to
    → cost_to_rim disc from ≤ step_cost dir + cost_to_rim disc to
falls_to_rim disc dir from to leads =
    let near = short dir from to leads in
    let x = disc.x in let z = disc.z in
    let a = farther_edge from.i x in let b = farther_edge from.j z in
    let c = farther_edge to.i x in let d = farther_edge to.j z in
    left_over (step_cost dir) (unsigned_abs disc.r) (root (square a + square b)) (root (square c + square d))
    (grows a b c d (step_cost dir) (farther from.i to.i x near.east near.west) (farther from.j to.j z near.north near.south)
    near.cost (kept_sides from to x z (step_cost dir) (one_way dir from to leads)))

-- some corner of the cell lies no nearer to the middle of the disc than its rim
abbrev pub IsOffDisc : Disc → Cell → Type 0
IsOffDisc disc cell =
    square (unsigned_abs disc.r) ≤ square (farther_edge cell.i disc.x) + square (farther_edge cell.j disc.z)

none_left : (r n : ℕ) → r ≤ n → r - n ≡ 0
none_left r n less = omega (arith, less)

pub none_to_rim : (disc : Disc) (cell : Cell) → IsOffDisc disc cell → cost_to_rim disc cell ≡ 0
none_to_rim disc cell off = let r = unsigned_abs disc.r in
    let n = square (farther_edge cell.i disc.x) + square (farther_edge cell.j disc.z) in
    none_left r (root n) (below_root n r off)

-- where each cell that is hit has a corner off a disc and the aim is framed by the whole map, the way out is an estimate
pub rim_estimate : (passes hit framed : Cell → Bool) (size : Size) (disc : Disc)
    → ((cell : Cell) → IsTrue (passes cell) → IsInside size cell) → ((cell : Cell) → IsTrue (framed cell))
    → ((cell : Cell) → IsTrue (hit cell) → IsOffDisc disc cell)
    → IsEstimate passes hit framed size (cost_to_rim disc)
rim_estimate passes hit framed size disc within everywhere off =
    whole_estimate passes hit framed size (cost_to_rim disc) within everywhere (record {
      none = λ cell _ is_hit. none_to_rim disc cell (off cell is_hit);
      falls = λ dir from to step. falls_to_rim disc dir from to step.leads;
    })
