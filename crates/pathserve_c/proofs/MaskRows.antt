-- Rows of a grid of masks.
use Rattle.std.proofs.Common.{◌≡◌, ℕ, ◌+◌, ◌-◌, ◌*◌, ◌<◌, ◌==◌, ◌&&◌, ◌||◌, Bool, true, false, nat_lt, List, drop, slice_index, inl, inr, refl, sym, ap, ◌∙◌, arith}
use Rattle.std.specs.List.{slice_range}
use Rattle.std.proofs.lemmas.Bool.{and_parts, and_from, or_cases, or_left, or_right, cases_lt, ltb-true, lt-ltb, eqb-true, eq-eqb}
use Rattle.std.proofs.lemmas.List.{get_or-drop, get_or-take}
use Rattle.nav_types.specs.declared.cells.Cell.{Cell}
use Rattle.nav_types.specs.declared.cells.Size.{Size}
use Rattle.lane_rows.specs.Rows.{has_class}
use Rattle.pathserve_c.specs.Grids.{is_masked}
use Rattle.pathserve_c.specs.inner.Runs.{is_in_row, is_in_rows}

-- tests that imply each other are one
same_tests : (a b : Bool) → (a ≡ true → b ≡ true) → (b ≡ true → a ≡ true) → a ≡ b
same_tests true b to from = sym (to refl)
same_tests false true to from = from refl
same_tests false false to from = refl

-- a place of a part of a list
part_at : (xs : List ℕ) (from count i : ℕ) → i < count → slice_index (slice_range xs from (from + count)) i ≡ slice_index xs (from + i)
part_at xs from count i lt =
    let behind : i < (from + count) - from = omega (arith, lt) in
    get_or-take ((from + count) - from) (drop from xs) i 0 behind ∙ get_or-drop from xs i 0

-- one row more
rows_more : (size : Size) (j : ℕ) (masks row : List ℕ) (k : ℕ) (cell : Cell)
    → (cell.i < size.w → slice_index row cell.i ≡ slice_index masks (j * size.w + cell.i))
    → is_in_rows (j + 1) size masks k cell ≡ (is_in_rows j size masks k cell || is_in_row j size.w row k cell)
rows_more size j masks row k cell same = same_tests _ _ there back
  where
    set : Bool
    set = has_class k (slice_index row cell.i)

    masked : Bool
    masked = is_masked size masks k cell

    within : Bool
    within = nat_lt cell.i size.w

    first : Bool
    first = nat_lt cell.j j && (within && masked)

    next : Bool
    next = cell.j == j && (within && set)

    one_mask : cell.j ≡ j → cell.i < size.w → set ≡ masked
    one_mask at lt = ap (λ (n : ℕ). has_class k n) (same lt ∙ ap (λ (row : ℕ). slice_index masks (row * size.w + cell.i)) (sym at))

    there : is_in_rows (j + 1) size masks k cell ≡ true → (first || next) ≡ true
    there is =
        let two = and_parts (nat_lt cell.j (j + 1)) (within && masked) is in
        let parts = and_parts within masked two.1 in
        let below : cell.j < j + 1 = ltb-true cell.j (j + 1) two.0 in
        let column : cell.i < size.w = ltb-true cell.i size.w parts.0 in
        elim (cases_lt cell.j j) [
          | inl lt ↦ or_left first next (and_from (nat_lt cell.j j) (within && masked) (lt-ltb cell.j j lt) two.1)
          | inr ge ↦
              let at : cell.j ≡ j = omega (arith, ge, below) in
              or_right first next (and_from (cell.j == j) (within && set) (eq-eqb cell.j j at) (and_from within set parts.0 (one_mask at column ∙ parts.1)))
        ]

    back : (first || next) ≡ true → is_in_rows (j + 1) size masks k cell ≡ true
    back is = elim (or_cases first next is) [
      | inl in_first ↦
          let two = and_parts (nat_lt cell.j j) (within && masked) in_first in
          let below : cell.j < j = ltb-true cell.j j two.0 in
          and_from (nat_lt cell.j (j + 1)) (within && masked) (lt-ltb cell.j (j + 1) (omega (arith, below))) two.1
      | inr in_next ↦
          let two = and_parts (cell.j == j) (within && set) in_next in
          let parts = and_parts within set two.1 in
          let at : cell.j ≡ j = eqb-true cell.j j two.0 in
          let column : cell.i < size.w = ltb-true cell.i size.w parts.0 in
          and_from (nat_lt cell.j (j + 1)) (within && masked) (lt-ltb cell.j (j + 1) (omega (arith, at)))
          (and_from within masked parts.0 (sym (one_mask at column) ∙ parts.1))
    ]

pub rows_step : (size : Size) (j : ℕ) (masks : List ℕ) (at width : ℕ) (old new : Bool) (k : ℕ) (cell : Cell) → at ≡ j → width ≡ size.w
    → old ≡ is_in_rows j size masks k cell
    → new ≡ (old || is_in_row j size.w (slice_range masks (at * width) (at * width + width)) k cell)
    → new ≡ is_in_rows (j + 1) size masks k cell
rows_step size j masks at width old new k cell is_j is_w was now =
    let row : List ℕ = slice_range masks (at * width) (at * width + width) in
    let place : at * width ≡ j * size.w = (λ i. is_j i * is_w i) in
    let same : cell.i < size.w → slice_index row cell.i ≡ slice_index masks (j * size.w + cell.i) =
    λ lt. part_at masks (at * width) width cell.i (omega (arith, lt, is_w)) ∙ ap (λ (n : ℕ). slice_index masks (n + cell.i)) place in
    now ∙ ap (λ (b : Bool). b || is_in_row j size.w row k cell) was ∙ sym (rows_more size j masks row k cell same)
