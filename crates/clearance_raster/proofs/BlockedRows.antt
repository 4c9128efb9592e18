-- The rows of a rectangle in which a shape blocks a cell of it.
use Rattle.std.proofs.Common.{◌≡◌, ℕ, ◌+◌, ◌-◌, ◌*◌, ◌≤◌, ap, sym, subst, ◌∙◌, arith, ℤ, pos, negsuc, ◌+ℤ◌, ◌-ℤ◌, ◌*ℤ◌, neg_ℤ}
use Rattle.std.specs.Prelude.{unsigned_abs, IsTrue}
use Rattle.std.proofs.lemmas.Int.{ints, unsigned_abs-mul}
use Rattle.std.proofs.Math.Nat.{mul-le-mul_left}
use borrow.Author.Differences.{up, down, sum_is_lem}
use Rattle.nav_types.specs.declared.cells.Cell.{Cell}
use Rattle.nav_types.specs.declared.cells.Rect.{Rect}
use Rattle.nav_types.specs.Cells.{IsInRect, cell_at}
use Rattle.fixed_point.specs.Plane.{from_centre, along, across, centre_along, centre_across}
use Rattle.obstruction_shapes.specs.declared.shapes.Shape.{Shape}
use Rattle.obstruction_shapes.specs.Shapes.{turned_of}
use Rattle.obstruction_shapes.specs.Blocking.{blocked}
use Rattle.clearance_raster.proofs.BlockedColumns.{blocked_within, along_from, across_from}

-- a sum with a product, and a difference from one, whose first factor grows
sum_step : (f u c : ℤ) (n : ℕ) → c +ℤ (f +ℤ pos n) *ℤ u ≡ (c +ℤ f *ℤ u) +ℤ pos n *ℤ u
sum_step f u c n =
    let sum = sum_is_lem f (pos n) in
    let ups = ap (λ k. k * up u) sum in let downs = ap (λ k. k * down u) sum in
    omega (arith, ints)

less_step : (f u c : ℤ) (n : ℕ) → (f +ℤ pos n) *ℤ u -ℤ c ≡ (f *ℤ u -ℤ c) +ℤ pos n *ℤ u
less_step f u c n =
    let sum = sum_is_lem f (pos n) in
    let ups = ap (λ k. k * up u) sum in let downs = ap (λ k. k * down u) sum in
    omega (arith, ints)

-- both lengths of a row, from those of the first one
along_up : (shape : Shape) (i first k : ℕ)
    → centre_along (turned_of shape) i (first + k) ≡ centre_along (turned_of shape) i first +ℤ pos (65536 * k) *ℤ (turned_of shape).uz
along_up shape i first k =
    let s = turned_of shape in let px = from_centre i s.x in
    let step : from_centre (first + k) s.z ≡ from_centre first s.z +ℤ pos (65536 * k) = omega (arith, ints) in
    ap (λ (p : ℤ). along s px p) step ∙ sum_step (from_centre first s.z) s.uz (px *ℤ s.ux) (65536 * k)

across_up : (shape : Shape) (i first k : ℕ)
    → centre_across (turned_of shape) i (first + k) ≡ centre_across (turned_of shape) i first +ℤ pos (65536 * k) *ℤ (turned_of shape).ux
across_up shape i first k =
    let s = turned_of shape in let px = from_centre i s.x in
    let step : from_centre (first + k) s.z ≡ from_centre first s.z +ℤ pos (65536 * k) = omega (arith, ints) in
    ap (λ (p : ℤ). across s px p) step ∙ less_step (from_centre first s.z) s.ux (px *ℤ s.uz) (65536 * k)

-- what a sum is short of is at most what was added
sum_least : (a y : ℤ) → unsigned_abs a ≤ unsigned_abs (a +ℤ y) + unsigned_abs y
sum_least (pos a) (pos y) = omega (arith, ints)
sum_least (pos a) (negsuc y) = omega (arith, ints)
sum_least (negsuc a) (pos y) = omega (arith, ints)
sum_least (negsuc a) (negsuc y) = omega (arith, ints)

-- a number and its negative are as large
abs_of_negative : (a : ℤ) → unsigned_abs (neg_ℤ a) ≡ unsigned_abs a
abs_of_negative (pos a) = omega (arith, ints)
abs_of_negative (negsuc a) = omega (arith, ints)

-- a length that is near 0 some columns on is near 0 here, but for what it changes over as many columns
near_beside : (start slope : ℤ) (size c wide most : ℕ) → size ≡ unsigned_abs slope → c ≤ wide
    → unsigned_abs (start +ℤ pos (65536 * c) *ℤ slope) ≤ most → unsigned_abs start ≤ most + 65536 * size * wide
near_beside start slope size c wide most is within near =
    let least = sum_least start (pos (65536 * c) *ℤ slope) in
    let moved : unsigned_abs (pos (65536 * c) *ℤ slope) ≡ 65536 * c * unsigned_abs slope = unsigned_abs-mul (pos (65536 * c)) slope in
    let more : 65536 * unsigned_abs slope * c ≤ 65536 * unsigned_abs slope * wide = mul-le-mul_left (65536 * unsigned_abs slope) within in
    rw is (omega arith)

-- how far the first column lies along the unit vector and across it in a row with a blocked cell, counted from a first row
pub along_near_row : (shape : Shape) (clearance : ℤ) (west east south i k most component : ℕ) (start slope : ℤ)
    → start ≡ centre_along (turned_of shape) west south → slope ≡ (turned_of shape).uz
    → component ≡ unsigned_abs (turned_of shape).ux → west ≤ i → i ≤ east
    → most ≡ 65536 * unsigned_abs (turned_of shape).hw + 65536 * unsigned_abs clearance + 65536 * component * (east - west)
    → IsTrue (blocked shape clearance (cell_at i (south + k))) → unsigned_abs (start +ℤ pos (65536 * k) *ℤ slope) ≤ most
along_near_row shape clearance west east south i k most component start slope start_is slope_is is low high most_is hit =
    let s = turned_of shape in let row = south + k in
    let whole : west + (i - west) ≡ i = omega arith in
    let hit_here = subst (λ (column : ℕ). IsTrue (blocked shape clearance (cell_at column row))) (sym whole) hit in
    let near = (blocked_within shape clearance (west + (i - west)) row hit_here).along in
    let moved = ap unsigned_abs (along_from shape west row (i - west)) in
    let first = near_beside (centre_along s west row) s.ux component (i - west) (east - west)
    (65536 * unsigned_abs s.hw + 65536 * unsigned_abs clearance) is (omega arith)
    (subst (λ (d : ℕ). d ≤ 65536 * unsigned_abs s.hw + 65536 * unsigned_abs clearance) moved near) in
    rw (start_is, slope_is, most_is) (subst (λ (d : ℕ). d ≤ 65536 * unsigned_abs s.hw + 65536 * unsigned_abs clearance
    + 65536 * component * (east - west)) (ap unsigned_abs (along_up shape west south k)) first)

pub across_near_row : (shape : Shape) (clearance : ℤ) (west east south i k most component : ℕ) (start slope : ℤ)
    → start ≡ centre_across (turned_of shape) west south → slope ≡ (turned_of shape).ux
    → component ≡ unsigned_abs (turned_of shape).uz → west ≤ i → i ≤ east
    → most ≡ 65536 * unsigned_abs (turned_of shape).hh + 65536 * unsigned_abs clearance + 65536 * component * (east - west)
    → IsTrue (blocked shape clearance (cell_at i (south + k))) → unsigned_abs (start +ℤ pos (65536 * k) *ℤ slope) ≤ most
across_near_row shape clearance west east south i k most component start slope start_is slope_is is low high most_is hit =
    let s = turned_of shape in let row = south + k in
    let whole : west + (i - west) ≡ i = omega arith in
    let hit_here = subst (λ (column : ℕ). IsTrue (blocked shape clearance (cell_at column row))) (sym whole) hit in
    let near = (blocked_within shape clearance (west + (i - west)) row hit_here).across in
    let moved = ap unsigned_abs (across_from shape west row (i - west)) in
    let first = near_beside (centre_across s west row) (neg_ℤ s.uz) component (i - west) (east - west)
    (65536 * unsigned_abs s.hh + 65536 * unsigned_abs clearance) (is ∙ sym (abs_of_negative s.uz)) (omega arith)
    (subst (λ (d : ℕ). d ≤ 65536 * unsigned_abs s.hh + 65536 * unsigned_abs clearance) moved near) in
    rw (start_is, slope_is, most_is) (subst (λ (d : ℕ). d ≤ 65536 * unsigned_abs s.hh + 65536 * unsigned_abs clearance
    + 65536 * component * (east - west)) (ap unsigned_abs (across_up shape west south k)) first)

-- a cell of a rectangle by its row, counted from the rectangle's first one
pub record RowCell (rect : Rect) (cell : Cell) (P : Cell → Type 0) : Type 0 where
  pub within : cell.j - rect.j0 ≤ rect.j1 - rect.j0
  pub holds : P (cell_at cell.i (rect.j0 + (cell.j - rect.j0)))

pub row_of : (rect : Rect) (cell : Cell) (P : Cell → Type 0) → IsInRect rect cell → P cell → RowCell rect cell P
row_of rect cell P inside holds =
    let south = inside.south in let north = inside.north in
    let row : cell.j ≡ rect.j0 + (cell.j - rect.j0) = omega arith in
    record { within = omega arith; holds = subst (λ (j : ℕ). P (cell_at cell.i j)) row holds }
