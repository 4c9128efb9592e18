-- What a segment touches, by offsets with signs.
use Rattle.std.proofs.Common.{ℕ, zero, suc, ℤ, pos, negsuc, neg_ℤ, ◌≡◌, ◌+◌, ◌*◌, ◌≤◌, ◌↔◌, inl, inr, ◌-ℤ◌, ◌*ℤ◌, refl, sym, arith}
use Rattle.std.specs.Prelude.{unsigned_abs}
use Rattle.std.proofs.lemmas.Bool.{cases_lt}
use Rattle.std.proofs.lemmas.Int.{ints}
use Rattle.std.proofs.Math.IntN.{pos-*ℤ-pos, pos-*ℤ-negsuc, negsuc-*ℤ-pos, negsuc-*ℤ-negsuc, zero-*ℤ, *ℤ-zero}
use Rattle.nav_types.specs.declared.cells.Cell.{Cell}
use Rattle.line_smooth.specs.Segments.{gap, offset, IsPartWay, Touches, TouchesByOffsets}

part_way : (a b c : ℕ) → gap a c + gap c b ≡ gap a b → IsPartWay (offset a b) (offset a c)
part_way a b c between = elim (cases_lt b a) [ inl down ↦ inr (omega (arith, ints), omega (arith, ints)) | inr up ↦ inl (omega (arith, ints), omega (arith, ints)) ]

between : (a b c : ℕ) → IsPartWay (offset a b) (offset a c) → gap a c + gap c b ≡ gap a b
between a b c (inl part) = let p = part.0 in let q = part.1 in omega (arith, ints)
between a b c (inr part) = let p = part.0 in let q = part.1 in omega (arith, ints)

size_of : (a b : ℕ) → unsigned_abs (offset a b) ≡ gap a b
size_of a b = omega (arith, ints)

-- products of numbers with signs
up_up : (w y : ℕ) → pos w *ℤ pos y ≡ pos (w * y)
up_up w y = pos-*ℤ-pos w y

down_up : (w y : ℕ) → neg_ℤ (pos w) *ℤ pos y ≡ neg_ℤ (pos (w * y))
down_up zero y = omega (arith, ints, zero-*ℤ (pos y))
down_up (suc w) y = negsuc-*ℤ-pos w y

up_down : (w y : ℕ) → pos w *ℤ neg_ℤ (pos y) ≡ neg_ℤ (pos (w * y))
up_down w zero = omega (arith, ints, *ℤ-zero (pos w))
up_down w (suc y) = pos-*ℤ-negsuc w y

down_down : (w y : ℕ) → neg_ℤ (pos w) *ℤ neg_ℤ (pos y) ≡ pos (w * y)
down_down zero zero = refl
down_down zero (suc y) = omega (arith, ints, zero-*ℤ (negsuc y))
down_down (suc w) zero = omega (arith, ints, *ℤ-zero (negsuc w))
down_down (suc w) (suc y) = negsuc-*ℤ-negsuc w y

apart_up : (a b : ℕ) → unsigned_abs (pos a -ℤ pos b) ≡ gap a b
apart_up a b = omega (arith, ints)

apart_down : (a b : ℕ) → unsigned_abs (neg_ℤ (pos a) -ℤ neg_ℤ (pos b)) ≡ gap a b
apart_down a b = omega (arith, ints)

-- one way or the other
crossed_by : (x y z v p q r s : ℤ) (a b c d : ℕ) (e f : ℤ) → x ≡ p → y ≡ q → z ≡ r → v ≡ s → p *ℤ q ≡ e → r *ℤ s ≡ f
    → unsigned_abs (e -ℤ f) ≡ gap (a * b) (c * d) → unsigned_abs ((x *ℤ y) -ℤ (z *ℤ v)) ≡ gap (a * b) (c * d)
crossed_by x y z v p q r s a b c d e f is_x is_y is_z is_v first second apart = cc

-- the products of two offsets that go the same ways differ as those of their sizes do
crossed : (a b c d e f : ℕ) → gap a c + gap c b ≡ gap a b → gap d f + gap f e ≡ gap d e
    → unsigned_abs ((offset a b *ℤ offset d f) -ℤ (offset d e *ℤ offset a c)) ≡ gap (gap a b * gap d f) (gap d e * gap a c)
crossed a b c d e f columns rows =
    let w = gap a b in let x = gap a c in let h = gap d e in let y = gap d f in
    elim (cases_lt b a) [
      | inl west ↦
          let is_w : offset a b ≡ neg_ℤ (pos (gap a b)) = omega (arith, ints) in
          let is_x : offset a c ≡ neg_ℤ (pos (gap a c)) = omega (arith, ints) in
          elim (cases_lt e d) [
            | inl south ↦
                let is_h : offset d e ≡ neg_ℤ (pos (gap d e)) = omega (arith, ints) in
                let is_y : offset d f ≡ neg_ℤ (pos (gap d f)) = omega (arith, ints) in
                crossed_by (offset a b) (offset d f) (offset d e) (offset a c) (neg_ℤ (pos w)) (neg_ℤ (pos y)) (neg_ℤ (pos h)) (neg_ℤ (pos x)) w y h x (pos (w * y)) (pos (h * x))
                is_w is_y is_h is_x (down_down w y) (down_down h x) (apart_up (w * y) (h * x))
            | inr north ↦
                let is_h : offset d e ≡ pos (gap d e) = omega (arith, ints) in
                let is_y : offset d f ≡ pos (gap d f) = omega (arith, ints) in
                crossed_by (offset a b) (offset d f) (offset d e) (offset a c) (neg_ℤ (pos w)) (pos y) (pos h) (neg_ℤ (pos x)) w y h x (neg_ℤ (pos (w * y))) (neg_ℤ (pos (h * x)))
                is_w is_y is_h is_x (down_up w y) (up_down h x) (apart_down (w * y) (h * x))
          ]
      | inr east ↦
          let is_w : offset a b ≡ pos (gap a b) = omega (arith, ints) in
          let is_x : offset a c ≡ pos (gap a c) = omega (arith, ints) in
          elim (cases_lt e d) [
            | inl south ↦
                let is_h : offset d e ≡ neg_ℤ (pos (gap d e)) = omega (arith, ints) in
                let is_y : offset d f ≡ neg_ℤ (pos (gap d f)) = omega (arith, ints) in
                crossed_by (offset a b) (offset d f) (offset d e) (offset a c) (pos w) (neg_ℤ (pos y)) (neg_ℤ (pos h)) (pos x) w y h x (neg_ℤ (pos (w * y))) (neg_ℤ (pos (h * x)))
                is_w is_y is_h is_x (up_down w y) (down_up h x) (apart_down (w * y) (h * x))
            | inr north ↦
                let is_h : offset d e ≡ pos (gap d e) = omega (arith, ints) in
                let is_y : offset d f ≡ pos (gap d f) = omega (arith, ints) in
                crossed_by (offset a b) (offset d f) (offset d e) (offset a c) (pos w) (pos y) (pos h) (pos x) w y h x (pos (w * y)) (pos (h * x))
                is_w is_y is_h is_x (up_up w y) (up_up h x) (apart_up (w * y) (h * x))
          ]
    ]

-- the offsets say the same as the sizes
near_is : (m n : ℕ) (x y z v : ℕ) → m ≡ n → x ≡ z → y ≡ v → 2 * m ≤ x + y → 2 * n ≤ z + v
near_is m n x y z v is_m is_x is_y near = omega arith

pub touches_by_offsets : (from to cell : Cell) → Touches from to cell ↔ TouchesByOffsets from to cell
touches_by_offsets from to cell = (
  λ t. record {
    columns = part_way from.i to.i cell.i t.columns;
    rows = part_way from.j to.j cell.j t.rows;
    near = near_is _ _ _ _ _ _ (sym (crossed from.i to.i cell.i from.j to.j cell.j t.columns t.rows)) (sym (size_of from.i to.i)) (sym (size_of from.j to.j)) t.near;
  },
  λ t.
      (let columns = between from.i to.i cell.i t.columns in
      let rows = between from.j to.j cell.j t.rows in
      record {
        columns = columns;
        rows = rows;
        near = near_is _ _ _ _ _ _ (crossed from.i to.i cell.i from.j to.j cell.j columns rows) (size_of from.i to.i) (size_of from.j to.j) t.near;
      }),
)
