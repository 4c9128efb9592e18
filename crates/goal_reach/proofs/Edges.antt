-- Columns and rows beyond the edges of a box.
use Rattle.std.proofs.Common.{ℕ, ◌≡◌, ◌+◌, ◌-◌, ◌*◌, ◌<◌, ◌≤◌, ◌⊎◌, ◌&&◌, Bool, IsTrue, inl, inr, arith, ℤ}
use Rattle.std.specs.Prelude.{unsigned_abs}
use Rattle.std.proofs.lemmas.Int.{ints}
use Rattle.std.proofs.lemmas.Bool.{cases_lt, and_parts, and_from}
use Rattle.nav_types.specs.declared.cells.Cell.{Cell}
use Rattle.nav_types.specs.declared.cells.Rect.{Rect}
use Rattle.nav_types.specs.declared.cells.Size.{Size}
use Rattle.nav_types.specs.Cells.{cell_at, IsInside, IsInRect}
use Rattle.nav_types.specs.Frames.{IsFrame}
use Rattle.fixed_point.specs.Plane.{from_centre}
use Rattle.goal_reach.specs.inner.Rings.{widened}

-- column (or row) i lies more than k beyond a column a, of which it is near, while the next one towards i is not
abbrev pub IsPast : (ℕ → Bool) → ℕ → ℕ → Type 0
IsPast near k i = ((a : ℕ) × ((a + k < i) × (IsTrue (near a) × (IsTrue (near (a + 1)) → ⊥))))
    ⊎ ((a : ℕ) × ((i + k ≤ a) × (IsTrue (near (a + 1)) × (IsTrue (near a) → ⊥))))

-- the box of the cells whose column and row are near, both
abbrev pub IsBoxOf : (ℕ → Bool) → (ℕ → Bool) → Size → Rect → Type 0
IsBoxOf column row size rect = IsFrame (λ cell. column cell.i && row cell.j) size rect

near_of : (column row : ℕ → Bool) (size : Size) (rect : Rect) → IsBoxOf column row size rect → (i j : ℕ) → i < size.w → j < size.h
    → rect.i0 ≤ i → i ≤ rect.i1 → rect.j0 ≤ j → j ≤ rect.j1 → (IsTrue (column i)) × (IsTrue (row j))
near_of column row size rect box i j wide high a b c d =
    and_parts (column i) (row j) ((box.exact (cell_at i j) (record { column = wide; row = high })).0 (record { west = a; east = b; south = c; north = d }))

in_box : (column row : ℕ → Bool) (size : Size) (rect : Rect) → IsBoxOf column row size rect → (i j : ℕ) → i < size.w → j < size.h
    → IsTrue (column i) → IsTrue (row j) → IsInRect rect (cell_at i j)
in_box column row size rect box i j wide high a b =
    (box.exact (cell_at i j) (record { column = wide; row = high })).1 (and_from (column i) (row j) a b)

past_east : (column row : ℕ → Bool) (size : Size) (rect : Rect) → IsBoxOf column row size rect → (k i : ℕ) → i < size.w → rect.i1 + k < i → IsPast column k i
past_east column row size rect box k i wide far =
    let order = box.inside.columns in let rows = box.inside.rows in let last = box.inside.last_row in
    let at : (IsTrue (column rect.i1)) × (IsTrue (row rect.j0)) =
    near_of column row size rect box rect.i1 rect.j0 (omega arith) (omega arith) order (omega arith) (omega arith) rows in
    inl (rect.i1, (far, (at.0, λ near. (let h = in_box column row size rect box (rect.i1 + 1) rect.j0 (omega arith) (omega arith) near at.1 in let east = h.east in omega arith))))

past_north : (column row : ℕ → Bool) (size : Size) (rect : Rect) → IsBoxOf column row size rect → (k j : ℕ) → j < size.h → rect.j1 + k < j → IsPast row k j
past_north column row size rect box k j high far =
    let order = box.inside.columns in let rows = box.inside.rows in let last = box.inside.last_column in
    let at : (IsTrue (column rect.i0)) × (IsTrue (row rect.j1)) =
    near_of column row size rect box rect.i0 rect.j1 (omega arith) (omega arith) (omega arith) order rows (omega arith) in
    inl (rect.j1, (far, (at.1, λ near. (let h = in_box column row size rect box rect.i0 (rect.j1 + 1) (omega arith) (omega arith) at.0 near in let north = h.north in omega arith))))

past_west : (column row : ℕ → Bool) (size : Size) (rect : Rect) → IsBoxOf column row size rect → (k i a : ℕ) → rect.i0 ≡ a + 1 → i + k < rect.i0 → IsPast column k i
past_west column row size rect box k i a is far =
    let order = box.inside.columns in let rows = box.inside.rows in let wide = box.inside.last_column in let high = box.inside.last_row in
    let at : (IsTrue (column (a + 1))) × (IsTrue (row rect.j0)) =
    near_of column row size rect box (a + 1) rect.j0 (omega arith) (omega arith) (omega arith) (omega arith) (omega arith) rows in
    inr (a, (omega arith, (at.0, λ near. (let h = in_box column row size rect box a rect.j0 (omega arith) (omega arith) near at.1 in let west = h.west in omega arith))))

past_south : (column row : ℕ → Bool) (size : Size) (rect : Rect) → IsBoxOf column row size rect → (k j a : ℕ) → rect.j0 ≡ a + 1 → j + k < rect.j0 → IsPast row k j
past_south column row size rect box k j a is far =
    let order = box.inside.columns in let rows = box.inside.rows in let wide = box.inside.last_column in let high = box.inside.last_row in
    let at : (IsTrue (column rect.i0)) × (IsTrue (row (a + 1))) =
    near_of column row size rect box rect.i0 (a + 1) (omega arith) (omega arith) (omega arith) order (omega arith) (omega arith) in
    inr (a, (omega arith, (at.1, λ near. (let h = in_box column row size rect box rect.i0 a (omega arith) (omega arith) at.0 near in let south = h.south in omega arith))))

-- a cell outside a box and so many rings round it lies beyond an edge of the box, that much
pub past_edges : (column row : ℕ → Bool) (size : Size) (rect : Rect) (k : ℕ) (cell : Cell) → IsBoxOf column row size rect → IsInside size cell
    → (IsInRect (widened k rect) cell → ⊥) → IsPast column k cell.i ⊎ IsPast row k cell.j
past_edges column row size rect k cell box inside off = elim (cases_lt (rect.i1 + k) cell.i) [
  | inl far ↦ inl (past_east column row size rect box k cell.i inside.column far)
  | inr east ↦ elim (cases_lt (cell.i + k) rect.i0) [
    | inl far ↦ inl (past_west column row size rect box k cell.i (rect.i0 - 1) (omega arith) far)
    | inr west ↦ elim (cases_lt (rect.j1 + k) cell.j) [
      | inl far ↦ inr (past_north column row size rect box k cell.j inside.row far)
      | inr north ↦ elim (cases_lt (cell.j + k) rect.j0) [
        | inl far ↦ inr (past_south column row size rect box k cell.j (rect.j0 - 1) (omega arith) far)
        | inr south ↦ absurd (off (record { west = omega arith; east = omega arith; south = omega arith; north = omega arith }))
      ]
    ]
  ]
]

-- ---- columns and a coordinate

-- where the next column's middle is further from a coordinate, so is each later one's, by a navcell each
further_on : (x : ℤ) (a i k : ℕ) → unsigned_abs (from_centre a x) < unsigned_abs (from_centre (a + 1) x) → a + k < i
    → unsigned_abs (from_centre (a + 1) x) + 65536 * k ≤ unsigned_abs (from_centre i x)
further_on x a i k grows far = omega (arith, ints)

further_back : (x : ℤ) (a i k : ℕ) → unsigned_abs (from_centre (a + 1) x) < unsigned_abs (from_centre a x) → i + k ≤ a
    → unsigned_abs (from_centre a x) + 65536 * k ≤ unsigned_abs (from_centre i x)
further_back x a i k grows far = omega (arith, ints)

-- the same of both, where a column is near exactly up to a distance of its middle
pub past_distance : (x : ℤ) (near : ℕ → Bool) (k i : ℕ) → ((b c : ℕ) → IsTrue (near b) → (IsTrue (near c) → ⊥) → unsigned_abs (from_centre b x) < unsigned_abs (from_centre c x))
    → IsPast near k i → (c : ℕ) × ((IsTrue (near c) → ⊥) × (unsigned_abs (from_centre c x) + 65536 * k ≤ unsigned_abs (from_centre i x)))
past_distance x near k i apart (inl (a, (far, (close, off)))) = (a + 1, (off, further_on x a i k (apart a (a + 1) close off) far))
past_distance x near k i apart (inr (a, (far, (close, off)))) = (a, (off, further_back x a i k (apart (a + 1) a close off) far))
