-- The blocked columns of one row are one run.
use Rattle.std.proofs.Common.{◌≡◌, ℕ, ◌+◌, ◌-◌, ◌*◌, ◌<◌, ◌≤◌, ◌⊎◌, inl, inr, ⊎_elim, subst, ap, ◌∙◌, arith, ℤ, pos, negsuc, ◌+ℤ◌, ◌-ℤ◌, ◌*ℤ◌, neg_ℤ, leb-true, le-leb}
use Rattle.std.specs.Prelude.{unsigned_abs, IsTrue}
use borrow.Author.Differences.{up, down, sum_is_lem, neg_is}
use Rattle.nav_types.specs.Cells.{cell_at}
use Rattle.fixed_point.specs.Plane.{square, from_centre, along, across, beyond}
use Rattle.obstruction_shapes.specs.declared.shapes.Shape.{Shape}
use Rattle.obstruction_shapes.specs.Shapes.{turned_of}
use Rattle.obstruction_shapes.specs.Blocking.{blocked}
use Rattle.std.proofs.lemmas.Int.{ints}
use Rattle.std.proofs.lemmas.Bool.{cases_lt}
use Rattle.std.proofs.Math.Nat.{mul-le-mul, mul-le-mul_left, le_of_mul-le-mul_left}
use Rattle.fixed_point.proofs.Squares.{twice_le}

-- a value between two others, whose distances from it are the steps s and t: on one side it moves away from 0, or on the other
pub record Away (a far near s t : ℕ) : Type 0 where
  pub moved : a + s ≤ far
  pub kept : a ≤ near + t

pub sides : (k y1 y2 y3 : ℤ) (n m : ℕ) → y2 ≡ y1 +ℤ pos n *ℤ k → y3 ≡ y2 +ℤ pos m *ℤ k
    → Away (unsigned_abs y2) (unsigned_abs y1) (unsigned_abs y3) (n * unsigned_abs k) (m * unsigned_abs k)
    ⊎ Away (unsigned_abs y2) (unsigned_abs y3) (unsigned_abs y1) (m * unsigned_abs k) (n * unsigned_abs k)
sides (pos k) y1 (pos a) y3 n m first second = inr (record { moved = omega (arith, ints); kept = omega (arith, ints) })
sides (pos k) y1 (negsuc a) y3 n m first second = inl (record { moved = omega (arith, ints); kept = omega (arith, ints) })
sides (negsuc k) y1 (pos a) y3 n m first second = inl (record { moved = omega (arith, ints); kept = omega (arith, ints) })
sides (negsuc k) y1 (negsuc a) y3 n m first second = inr (record { moved = omega (arith, ints); kept = omega (arith, ints) })

-- the middle magnitude is at most the weighted mean of the outer ones
pub mean_of : (a b c k n m : ℕ) → Away b a c (n * k) (m * k) ⊎ Away b c a (m * k) (n * k) → (m + n) * b ≤ m * a + n * c
mean_of a b c k n m (inl w) = let x = mul-le-mul_left m w.moved in let y = mul-le-mul_left n w.kept in omega arith
mean_of a b c k n m (inr w) = let x = mul-le-mul_left n w.moved in let y = mul-le-mul_left m w.kept in omega arith

-- the same past a half side
pub past_mean : (a b c w n m : ℕ) → (m + n) * b ≤ m * a + n * c → (m + n) * (b - w) ≤ m * (a - w) + n * (c - w)
past_mean a b c w n m mean =
    ⊎_elim
    (λ (past : w < b).
    let whole : b ≡ (b - w) + w = omega arith in
    let split : (m + n) * b ≡ (m + n) * ((b - w) + w) = ap (λ t. (m + n) * t) whole in
    let first : m * a ≤ m * ((a - w) + w) = mul-le-mul_left m (omega arith) in
    let last : n * c ≤ n * ((c - w) + w) = mul-le-mul_left n (omega arith) in
    omega arith)
    (λ (within : b ≤ w).
    let none : b - w ≡ 0 = omega arith in
    rw none (omega arith))
    (cases_lt w b)

-- the square of a weighted mean is at most the weighted mean of the squares
pub square_mean : (a b c n m : ℕ) → (m + n) * b ≤ m * a + n * c → (m + n) * ((m + n) * (b * b)) ≤ (m + n) * (m * (a * a) + n * (c * c))
square_mean a b c n m mean =
    let squares : ((m + n) * b) * ((m + n) * b) ≤ (m * a + n * c) * (m * a + n * c) = mul-le-mul mean mean in
    let mixed : (m * n) * (2 * (a * c)) ≤ (m * n) * (a * a + c * c) = mul-le-mul_left (m * n) (twice_le a c) in
    omega arith

-- two squares at once, under a bound at both ends
pub sum_between : (a1 a2 a3 b1 b2 b3 n m r : ℕ) → 0 < m + n → (m + n) * a2 ≤ m * a1 + n * a3 → (m + n) * b2 ≤ m * b1 + n * b3
    → a1 * a1 + b1 * b1 ≤ r → a3 * a3 + b3 * b3 ≤ r → a2 * a2 + b2 * b2 ≤ r
sum_between a1 a2 a3 b1 b2 b3 n m r some_gap mean_a mean_b first last =
    let squares_a = square_mean a1 a2 a3 n m mean_a in
    let squares_b = square_mean b1 b2 b3 n m mean_b in
    let ends : (m + n) * (m * (a1 * a1 + b1 * b1) + n * (a3 * a3 + b3 * b3)) ≤ (m + n) * (m * r + n * r) =
    mul-le-mul_left (m + n) (let x = mul-le-mul_left m first in let y = mul-le-mul_left n last in omega arith) in
    let whole : (m + n) * ((m + n) * (a2 * a2 + b2 * b2)) ≤ (m + n) * ((m + n) * r) = omega arith in
    le_of_mul-le-mul_left (le_of_mul-le-mul_left whole some_gap) some_gap

-- a step of n along a row changes the length along, or across, by n times one amount
pub along_step : (f u c : ℤ) (n : ℕ) → (f +ℤ pos n) *ℤ u +ℤ c ≡ (f *ℤ u +ℤ c) +ℤ pos n *ℤ u
along_step f u c n =
    let sum = sum_is_lem f (pos n) in
    let ups = ap (λ k. k * up u) sum in let downs = ap (λ k. k * down u) sum in
    omega (arith, ints)

pub across_step : (f u c : ℤ) (n : ℕ) → c -ℤ (f +ℤ pos n) *ℤ u ≡ (c -ℤ f *ℤ u) +ℤ pos n *ℤ neg_ℤ u
across_step f u c n =
    let sum = sum_is_lem f (pos n) in
    let ups = ap (λ k. k * up u) sum in let downs = ap (λ k. k * down u) sum in
    let turned_up = ap (λ k. n * k) (neg_is u).0 in let turned_down = ap (λ k. n * k) (neg_is u).1 in
    omega (arith, ints)

-- columns of a row, apart
pub column_step : (x : ℤ) (i k : ℕ) → i ≤ k → from_centre k x ≡ from_centre i x +ℤ pos (65536 * (k - i))
column_step x i k order = omega (arith, ints)

-- the weighted mean past a half side, of a length that changes by n and m times one amount
pub beyond_mean : (k y1 y2 y3 half : ℤ) (n m : ℕ) → y2 ≡ y1 +ℤ pos n *ℤ k → y3 ≡ y2 +ℤ pos m *ℤ k
    → (m + n) * beyond y2 half ≤ m * beyond y1 half + n * beyond y3 half
beyond_mean k y1 y2 y3 half n m first second =
    past_mean (unsigned_abs y1) (unsigned_abs y2) (unsigned_abs y3) (65536 * unsigned_abs half) n m
    (mean_of (unsigned_abs y1) (unsigned_abs y2) (unsigned_abs y3) (unsigned_abs k) n m (sides k y1 y2 y3 n m first second))

-- the columns apart
apart : (shape : Shape) (clearance : ℤ) (first middle last j : ℕ) → first ≤ middle → middle ≤ last → first < last
    → IsTrue (blocked shape clearance (cell_at first j)) → IsTrue (blocked shape clearance (cell_at last j))
    → IsTrue (blocked shape clearance (cell_at middle j))
unfolding blocked
apart shape clearance first middle last j after before gap hit_first hit_last =
    let s = turned_of shape in let pz = from_centre j s.z in
    let n = 65536 * (middle - first) in let m = 65536 * (last - middle) in
    let p1 = from_centre first s.x in let p2 = from_centre middle s.x in let p3 = from_centre last s.x in
    let step1 = column_step s.x first middle after in let step2 = column_step s.x middle last before in
    let du : ℤ → ℤ = λ p. along s p pz in let dv : ℤ → ℤ = λ p. across s p pz in
    let du1 = ap du step1 ∙ along_step p1 s.ux (pz *ℤ s.uz) n in
    let du2 = ap du step2 ∙ along_step p2 s.ux (pz *ℤ s.uz) m in
    let dv1 = ap dv step1 ∙ across_step p1 s.uz (pz *ℤ s.ux) n in
    let dv2 = ap dv step2 ∙ across_step p2 s.uz (pz *ℤ s.ux) m in
    let mean_a = beyond_mean s.ux (du p1) (du p2) (du p3) s.hw n m du1 du2 in
    let mean_b = beyond_mean (neg_ℤ s.uz) (dv p1) (dv p2) (dv p3) s.hh n m dv1 dv2 in
    let r = square (65536 * unsigned_abs clearance) in
    let bound : ℤ → ℕ = λ p. square (beyond (du p) s.hw) + square (beyond (dv p) s.hh) in
    le-leb (bound p2) r
    (sum_between (beyond (du p1) s.hw) (beyond (du p2) s.hw) (beyond (du p3) s.hw)
    (beyond (dv p1) s.hh) (beyond (dv p2) s.hh) (beyond (dv p3) s.hh) n m r (omega arith) mean_a mean_b
    (leb-true (bound p1) r hit_first) (leb-true (bound p3) r hit_last))

-- where two columns of a row are blocked, so is each between them
pub blocked_between : (shape : Shape) (clearance : ℤ) (first middle last j : ℕ) → first ≤ middle → middle ≤ last
    → IsTrue (blocked shape clearance (cell_at first j)) → IsTrue (blocked shape clearance (cell_at last j))
    → IsTrue (blocked shape clearance (cell_at middle j))
blocked_between shape clearance first middle last j after before hit_first hit_last =
    ⊎_elim (λ (gap : first < last). apart shape clearance first middle last j after before gap hit_first hit_last)
    (λ (one : last ≤ first). let same : first ≡ middle = omega arith in
    subst (λ (i : ℕ). IsTrue (blocked shape clearance (cell_at i j))) same hit_first)
    (cases_lt first last)
