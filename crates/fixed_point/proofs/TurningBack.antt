-- Turning a way back from a vector's axes to the map's: how far it leads along an axis of the map follows from its
-- lengths along and across the vector.
use Rattle.std.proofs.Common.{ℕ, ◌≡◌, ◌+◌, ◌*◌, ◌≤◌, ◌∙◌, ap, subst, arith, ℤ, pos, negsuc, ◌+ℤ◌, ◌-ℤ◌, ◌*ℤ◌}
use borrow.Author.Differences.{up, down}
use Rattle.std.specs.Prelude.{unsigned_abs}
use Rattle.std.proofs.lemmas.Int.{ints}
use Rattle.std.proofs.Math.Nat.{mul-le-mul_left}
use Rattle.fixed_point.specs.Plane.{square}

-- from the way (p, q) turned to (d, e): what p brings to d and e, where q adds a to one of them and b to the other
abbrev Turns : ℕ → ℕ → ℕ → ℕ → ℕ → Type 0
Turns p u v d e = (a : ℕ) × ((b : ℕ) × ((p * u + a * v ≤ d + b * v) × (p * v + b * u ≤ e + a * u)))

turns : (p q u v : ℤ) → Turns (unsigned_abs p) (unsigned_abs u) (unsigned_abs v)
    (unsigned_abs (p *ℤ u +ℤ q *ℤ v)) (unsigned_abs (q *ℤ u -ℤ p *ℤ v))
turns (pos p) q (pos u) (pos v) = (up q, (down q, (omega (arith, ints), omega (arith, ints))))
turns (pos p) q (pos u) (negsuc v) = (down q, (up q, (omega (arith, ints), omega (arith, ints))))
turns (pos p) q (negsuc u) (pos v) = (down q, (up q, (omega (arith, ints), omega (arith, ints))))
turns (pos p) q (negsuc u) (negsuc v) = (up q, (down q, (omega (arith, ints), omega (arith, ints))))
turns (negsuc p) q (pos u) (pos v) = (down q, (up q, (omega (arith, ints), omega (arith, ints))))
turns (negsuc p) q (pos u) (negsuc v) = (up q, (down q, (omega (arith, ints), omega (arith, ints))))
turns (negsuc p) q (negsuc u) (pos v) = (up q, (down q, (omega (arith, ints), omega (arith, ints))))
turns (negsuc p) q (negsuc u) (negsuc v) = (down q, (up q, (omega (arith, ints), omega (arith, ints))))

turned_back : (p u v d e : ℕ) → Turns p u v d e → p * (square u + square v) ≤ u * d + v * e
turned_back p u v d e (a, (b, (first, second))) =
    let x = mul-le-mul_left u first in let y = mul-le-mul_left v second in omega arith

-- the squared length of the vector times how far the way leads along the map's first axis
pub column_back : (p q u v : ℤ) → unsigned_abs p * (square (unsigned_abs u) + square (unsigned_abs v))
    ≤ unsigned_abs u * unsigned_abs (p *ℤ u +ℤ q *ℤ v) + unsigned_abs v * unsigned_abs (q *ℤ u -ℤ p *ℤ v)
column_back p q u v = turned_back (unsigned_abs p) (unsigned_abs u) (unsigned_abs v)
    (unsigned_abs (p *ℤ u +ℤ q *ℤ v)) (unsigned_abs (q *ℤ u -ℤ p *ℤ v)) (turns p q u v)

-- and along the other
pub row_back : (p q u v : ℤ) → unsigned_abs q * (square (unsigned_abs v) + square (unsigned_abs u))
    ≤ unsigned_abs v * unsigned_abs (p *ℤ u +ℤ q *ℤ v) + unsigned_abs u * unsigned_abs (q *ℤ u -ℤ p *ℤ v)
row_back p q u v =
    let far = unsigned_abs q * (square (unsigned_abs v) + square (unsigned_abs u)) in
    let along : unsigned_abs (q *ℤ v +ℤ p *ℤ u) ≡ unsigned_abs (p *ℤ u +ℤ q *ℤ v) = omega (arith, ints) in
    let across : unsigned_abs (p *ℤ v -ℤ q *ℤ u) ≡ unsigned_abs (q *ℤ u -ℤ p *ℤ v) = omega (arith, ints) in
    let sum = ap (λ d. unsigned_abs v * d + unsigned_abs u * unsigned_abs (p *ℤ v -ℤ q *ℤ u)) along
    ∙ ap (λ e. unsigned_abs v * unsigned_abs (p *ℤ u +ℤ q *ℤ v) + unsigned_abs u * e) across in
    subst (λ n. far ≤ n) sum (column_back q p v u)
