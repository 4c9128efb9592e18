-- The way out of a turned room in which no cell is looked for is an estimate.
use Rattle.std.proofs.Common.{ℕ, suc, ◌≡◌, ◌+◌, ◌-◌, ◌*◌, ◌/◌, ◌<◌, ◌≤◌, ◌⊎◌, inl, inr, arith, min, Bool, IsTrue, ℤ, pos, negsuc, ◌+ℤ◌, ◌-ℤ◌, ◌*ℤ◌}
use borrow.Author.Differences.{up, down}
use Rattle.std.specs.Prelude.{unsigned_abs}
use Rattle.std.proofs.lemmas.Int.{ints}
use Rattle.std.proofs.lemmas.Nat.{div-add-mod', div_below, mod_below}
use Rattle.std.proofs.Math.Nat.{mul-le-mul_left}
use Rattle.nav_types.specs.declared.limits.TheConstants.{STRAIGHT_COST, DIAGONAL_COST}
use Rattle.nav_types.specs.declared.cells.Cell.{Cell}
use Rattle.nav_types.specs.declared.cells.Size.{Size}
use Rattle.nav_types.specs.declared.directions.Dir.{Dir}
use Rattle.nav_types.specs.Cells.{IsInside}
use Rattle.nav_types.specs.Directions.{Leads, step_cost}
use Rattle.fixed_point.specs.declared.plane.Rectangle.{Rectangle}
use Rattle.fixed_point.specs.Plane.{from_centre, along, across, centre_along, centre_across}
use Rattle.jump_search.specs.declared.rooms.TurnedRoom.{TurnedRoom}
use Rattle.jump_search.specs.Estimates.{IsEstimate, depth_within, cost_to_side}
use Rattle.jump_search.specs.Gains.{IsGain}
use Rattle.jump_search.proofs.WaysOut.{short, one_way, whole_estimate}

-- ---- lengths change by little where a place does

times_near : (m n : ℕ) (p q : ℤ) → unsigned_abs (q -ℤ p) ≤ n
    → (m * (up q + down p) ≤ m * (up p + down q + n)) × (m * (up p + down q) ≤ m * (up q + down p + n))
times_near m n p q near = (mul-le-mul_left m (omega (arith, ints)), mul-le-mul_left m (omega (arith, ints)))

product_near : (n : ℕ) (p q u : ℤ) → unsigned_abs (q -ℤ p) ≤ n → unsigned_abs (q *ℤ u -ℤ p *ℤ u) ≤ n * unsigned_abs u
product_near n p q (pos m) near =
    let both = times_near m n p q near in let one = both.0 in let other = both.1 in omega (arith, ints)
product_near n p q (negsuc m) near =
    let both = times_near (suc m) n p q near in let one = both.0 in let other = both.1 in omega (arith, ints)

sum_near : (m n : ℕ) (a b c d : ℤ) → unsigned_abs (c -ℤ a) ≤ m → unsigned_abs (d -ℤ b) ≤ n
    → unsigned_abs (c +ℤ d) ≤ unsigned_abs (a +ℤ b) + (m + n)
sum_near m n a b c d one other = omega (arith, ints)

difference_near : (m n : ℕ) (a b c d : ℤ) → unsigned_abs (c -ℤ a) ≤ m → unsigned_abs (d -ℤ b) ≤ n
    → unsigned_abs (c -ℤ d) ≤ unsigned_abs (a -ℤ b) + (m + n)
difference_near m n a b c d one other = omega (arith, ints)

-- a point that lies no more than w columns and h rows (raw) from another is longer along a rectangle by little
pub along_near : (s : Rectangle) (w h : ℕ) (px pz qx qz : ℤ) → unsigned_abs (qx -ℤ px) ≤ w → unsigned_abs (qz -ℤ pz) ≤ h
    → unsigned_abs (along s qx qz) ≤ unsigned_abs (along s px pz) + (w * unsigned_abs s.ux + h * unsigned_abs s.uz)
along_near s w h px pz qx qz column row =
    sum_near (w * unsigned_abs s.ux) (h * unsigned_abs s.uz) (px *ℤ s.ux) (pz *ℤ s.uz) (qx *ℤ s.ux) (qz *ℤ s.uz)
    (product_near w px qx s.ux column) (product_near h pz qz s.uz row)

-- and across it
pub across_near : (s : Rectangle) (w h : ℕ) (px pz qx qz : ℤ) → unsigned_abs (qx -ℤ px) ≤ w → unsigned_abs (qz -ℤ pz) ≤ h
    → unsigned_abs (across s qx qz) ≤ unsigned_abs (across s px pz) + (h * unsigned_abs s.ux + w * unsigned_abs s.uz)
across_near s w h px pz qx qz column row =
    difference_near (h * unsigned_abs s.ux) (w * unsigned_abs s.uz) (pz *ℤ s.ux) (px *ℤ s.uz) (qz *ℤ s.ux) (qx *ℤ s.uz)
    (product_near h pz qz s.ux row) (product_near w px qx s.uz column)

-- ---- along a step the depth falls by no more than the gain times what the step costs

-- both lengths of a cell grow by no more than this
record Grows (s : Rectangle) (from to : Cell) (most : ℕ) : Type 0 where
  pub first : unsigned_abs (centre_along s to.i to.j) ≤ unsigned_abs (centre_along s from.i from.j) + most
  pub second : unsigned_abs (centre_across s to.i to.j) ≤ unsigned_abs (centre_across s from.i from.j) + most

grows : (s : Rectangle) (from to : Cell) (w h most : ℕ)
    → unsigned_abs (from_centre to.i s.x -ℤ from_centre from.i s.x) ≤ w
    → unsigned_abs (from_centre to.j s.z -ℤ from_centre from.j s.z) ≤ h
    → w * unsigned_abs s.ux + h * unsigned_abs s.uz ≤ most → h * unsigned_abs s.ux + w * unsigned_abs s.uz ≤ most
    → Grows s from to most
grows s from to w h most column row less more =
    let px = from_centre from.i s.x in let pz = from_centre from.j s.z in
    let qx = from_centre to.i s.x in let qz = from_centre to.j s.z in
    let one = along_near s w h px pz qx qz column row in
    let other = across_near s w h px pz qx qz column row in
    record { first = omega (arith, one, less); second = omega (arith, other, more) }

moved : (i k : ℕ) (x : ℤ) → k ≤ i + 1 → i ≤ k + 1 → unsigned_abs (from_centre k x -ℤ from_centre i x) ≤ 65536
moved i k x less more = omega (arith, ints)

kept : (i k : ℕ) (x : ℤ) → k ≡ i → unsigned_abs (from_centre k x -ℤ from_centre i x) ≤ 0
kept i k x same = omega (arith, ints, same)

no_dearer : (g n cost most : ℕ) → n ≤ cost → most ≤ g * n → most ≤ g * cost
no_dearer g n cost most dear less = let more : g * n ≤ g * cost = mul-le-mul_left g dear in omega (arith, more, less)

grows_by : (s : Rectangle) (gain cost : ℕ) (from to : Cell) → IsGain s.ux s.uz gain → STRAIGHT_COST ≤ cost
    → unsigned_abs (from_centre to.i s.x -ℤ from_centre from.i s.x) ≤ 65536
    → unsigned_abs (from_centre to.j s.z -ℤ from_centre from.j s.z) ≤ 65536
    → ((to.i ≡ from.i) ⊎ (to.j ≡ from.j)) ⊎ (DIAGONAL_COST ≤ cost) → Grows s from to (gain * cost)
grows_by s gain cost from to is dear column row (inl (inl same)) =
    let one = no_dearer gain STRAIGHT_COST cost (65536 * unsigned_abs s.ux) dear is.column in
    let other = no_dearer gain STRAIGHT_COST cost (65536 * unsigned_abs s.uz) dear is.row in
    grows s from to 0 65536 (gain * cost) (kept from.i to.i s.x same) row (omega (arith, other)) (omega (arith, one))
grows_by s gain cost from to is dear column row (inl (inr same)) =
    let one = no_dearer gain STRAIGHT_COST cost (65536 * unsigned_abs s.ux) dear is.column in
    let other = no_dearer gain STRAIGHT_COST cost (65536 * unsigned_abs s.uz) dear is.row in
    grows s from to 65536 0 (gain * cost) column (kept from.j to.j s.z same) (omega (arith, one)) (omega (arith, other))
grows_by s gain cost from to is dear column row (inr more) =
    let both = no_dearer gain DIAGONAL_COST cost (65536 * (unsigned_abs s.ux + unsigned_abs s.uz)) more is.both in
    grows s from to 65536 65536 (gain * cost) column row (omega (arith, both)) (omega (arith, both))

grows_along : (s : Rectangle) (gain : ℕ) (dir : Dir) (from to : Cell) → IsGain s.ux s.uz gain → Leads dir from to
    → Grows s from to (gain * step_cost dir)
grows_along s gain dir from to is leads =
    let near = short dir from to leads in
    grows_by s gain (step_cost dir) from to is near.cost (moved from.i to.i s.x near.east near.west)
    (moved from.j to.j s.z near.north near.south) (one_way dir from to leads)

depth_falls : (h v a b c d e most : ℕ) → c ≤ a + most → d ≤ b + most
    → min (h - (a + e)) (v - (b + e)) ≤ min (h - (c + e)) (v - (d + e)) + most
depth_falls h v a b c d e most one other = omega (arith, one, other)

-- a quotient falls by no more than so many divisors
quotient_falls : (n m gain cost : ℕ) → 0 < gain → n ≤ m + gain * cost → n / gain ≤ cost + m / gain
quotient_falls n m gain cost some less =
    let parts = div-add-mod' m gain in
    let rest = mod_below m gain some in
    let next : n / gain < suc (cost + m / gain) = div_below n gain (suc (cost + m / gain)) some (omega (arith, parts, rest, less)) in
    omega (arith, next)

falls_to_side : (room : TurnedRoom) (dir : Dir) (from to : Cell) → Leads dir from to
    → cost_to_side room from ≤ step_cost dir + cost_to_side room to
falls_to_side room dir from to leads =
    let s = room.rectangle in
    let large = room.gains.large in
    let more = grows_along s room.gain dir from to room.gains leads in
    quotient_falls (depth_within s from) (depth_within s to) room.gain (step_cost dir) (omega (arith, large))
    (depth_falls (65536 * unsigned_abs s.hw) (65536 * unsigned_abs s.hh)
    (unsigned_abs (centre_along s from.i from.j)) (unsigned_abs (centre_across s from.i from.j))
    (unsigned_abs (centre_along s to.i to.j)) (unsigned_abs (centre_across s to.i to.j))
    (32768 * (unsigned_abs s.ux + unsigned_abs s.uz)) (room.gain * step_cost dir) more.first more.second)

-- ---- the estimate

none_deep : (gain : ℕ) → 0 < gain → 0 / gain ≡ 0
none_deep gain some = let less = div_below 0 gain 1 some (omega (arith, some)) in omega (arith, less)

none_to_side : (room : TurnedRoom) (cell : Cell) → depth_within room.rectangle cell ≡ 0 → cost_to_side room cell ≡ 0
none_to_side room cell none = let large = room.gains.large in rw none (none_deep room.gain (omega (arith, large)))

-- where no cell that is hit lies whole within a turned room and the aim is framed by the whole map, the way out is an
-- estimate
pub side_estimate : (passes hit framed : Cell → Bool) (size : Size) (room : TurnedRoom)
    → ((cell : Cell) → IsTrue (passes cell) → IsInside size cell) → ((cell : Cell) → IsTrue (framed cell))
    → ((cell : Cell) → IsTrue (hit cell) → depth_within room.rectangle cell ≡ 0)
    → IsEstimate passes hit framed size (cost_to_side room)
side_estimate passes hit framed size room within everywhere shallow =
    whole_estimate passes hit framed size (cost_to_side room) within everywhere (record {
      none = λ cell _ is_hit. none_to_side room cell (shallow cell is_hit);
      falls = λ dir from to step. falls_to_side room dir from to step.leads;
    })
