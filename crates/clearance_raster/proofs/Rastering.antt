-- Bits that are set in a part of a rectangle of cells: one run of a row, and rasters one after another.
use Rattle.std.proofs.Common.{◌≡◌, ℕ, ◌+◌, ◌<◌, ◌≤◌, ⊎_elim, Bool, true, false, ◌&&◌, ◌||◌, ◌==◌, max, refl, sym, ap, subst, ◌∙◌, arith}
use Rattle.std.specs.Prelude.{bit_or, nat_lt, IsTrue, IsFalse, ◌↔◌}
use Rattle.std.specs.Int.{bit_at}
use Rattle.std.proofs.lemmas.Nat.Bits.{bit_at_or, bit_at-lt}
use Rattle.std.proofs.lemmas.Bool.{cases_lt, cases_eq, cases_Bool, both_ways, eq-eqb, ne_eqb, le-ltb}
use Rattle.std.proofs.Math.Nat.{max-zero}
use Rattle.nav_types.specs.declared.cells.Cell.{Cell}
use Rattle.nav_types.specs.declared.cells.Rect.{Rect}
use Rattle.nav_types.specs.declared.cells.Size.{Size}
use Rattle.nav_types.specs.Cells.{cell_at, IsInside, IsInRect}
use Rattle.nav_types.proofs.NumberTies.{below_next}
use Rattle.lane_rows.specs.Rows.{has_class, one_if}
use Rattle.navcell_grid.specs.Grids.{IsInSpan}
use Rattle.nav_types.specs.Rects.{IsPartOf}
use Rattle.clearance_raster.specs.inner.TestRasters.{IsRasterIn}

-- a test of classes and cells
abbrev pub Test : Type 0
Test = ℕ → Cell → Bool

-- two tests agree on the cells of a map
abbrev pub Agree : Size → Test → Test → Type 0
Agree size s t = (k : ℕ) (cell : Cell) → IsInside size cell → s k cell ≡ t k cell

-- a bit that stays where the test does not hold
stays_bit : (old new k : ℕ) (test : Bool) → new ≡ old → test ≡ false → bit_at new k ≡ max (bit_at old k) (one_if test)
stays_bit old new k test same fails = ap (λ n. bit_at n k) same ∙ sym (max-zero (bit_at old k)) ∙ ap (λ f. max (bit_at old k) (one_if f)) (sym fails)

-- a bit is 1 or 0 as its test says
pub one_if-has_class : (k n : ℕ) → one_if (has_class k n) ≡ bit_at n k
one_if-has_class k n = ⊎_elim
    (λ (set : bit_at n k ≡ 1). ap one_if (eq-eqb (bit_at n k) 1 set) ∙ sym set)
    (λ (clear : bit_at n k ≡ 1 → ⊥).
    let zero : bit_at n k ≡ 0 = ⊎_elim (λ (less : bit_at n k < 1). omega arith) (λ (more : 1 ≤ bit_at n k). absurd (clear (omega (arith, bit_at-lt n k)))) (cases_lt (bit_at n k) 1) in
    ap one_if (ne_eqb (bit_at n k) 1 clear) ∙ sym zero)
    (cases_eq (bit_at n k) 1)

max_both : (n : ℕ) (a b : Bool) → max (max n (one_if a)) (one_if b) ≡ max n (one_if (a || b))
max_both n true true = omega arith
max_both n true false = omega arith
max_both n false true = omega arith
max_both n false false = omega arith

-- a bit after two rasters
bit_both : (old mid new k : ℕ) (x y : Bool) → bit_at mid k ≡ max (bit_at old k) (one_if x) → bit_at new k ≡ max (bit_at mid k) (one_if y)
    → bit_at new k ≡ max (bit_at old k) (one_if (x || y))
bit_both old mid new k x y one two = two ∙ ap (λ n. max n (one_if y)) one ∙ max_both (bit_at old k) x y

-- a bit after a raster of another test that says the same
bit_alike : (old new k : ℕ) (x y : Bool) → x ≡ y → bit_at new k ≡ max (bit_at old k) (one_if x) → bit_at new k ≡ max (bit_at old k) (one_if y)
bit_alike old new k x y alike is = is ∙ ap (λ f. max (bit_at old k) (one_if f)) alike

-- ---- rasters of whole grids

-- ---- rasters of a part of a rectangle of cells

-- a number for each cell
abbrev pub Numbers : Type 0
Numbers = Cell → ℕ

-- a test holds for no cell of the part
abbrev pub HoldsNowhere : Rect → Test → Type 0
HoldsNowhere part t = (k : ℕ) (cell : Cell) → IsInRect part cell → t k cell ≡ false

-- numbers that stay are the raster of a test that nothing meets
pub part_none : (rect part : Rect) (t : Test) (a : Numbers) → HoldsNowhere part t → IsRasterIn rect part t a a
part_none rect part t a none = record {
  bits = λ cell k inside. stays_bit (a cell) (a cell) k (t k cell) refl (none k cell inside);
  others = λ cell inside out. refl;
}

-- rasters of one part one after another
pub part_both : (rect part : Rect) (s t : Test) (a b c : Numbers) → IsRasterIn rect part s a b → IsRasterIn rect part t b c
    → IsRasterIn rect part (λ k cell. s k cell || t k cell) a c
part_both rect part s t a b c one two = record {
  bits = λ cell k inside. bit_both (a cell) (b cell) (c cell) k (s k cell) (t k cell) (one.bits cell k inside) (two.bits cell k inside);
  others = λ cell inside out. two.others cell inside out ∙ one.others cell inside out;
}

-- the raster of another test that says the same
pub part_alike : (rect part : Rect) (s t : Test) (a b : Numbers) → ((k : ℕ) (cell : Cell) → IsInRect part cell → s k cell ≡ t k cell)
    → IsRasterIn rect part s a b → IsRasterIn rect part t a b
part_alike rect part s t a b alike is = record {
  bits = λ cell k inside. bit_alike (a cell) (b cell) k (s k cell) (t k cell) (alike k cell inside) (is.bits cell k inside);
  others = is.others;
}

-- a raster in another rectangle that is the same
pub part_moved : (rect other part : Rect) (t : Test) (a b : Numbers) → rect ≡ other → IsRasterIn rect part t a b → IsRasterIn other part t a b
part_moved rect other part t a b same is = subst (λ (r : Rect). IsRasterIn r part t a b) same is

-- ---- one row

and_false : (x y : Bool) → (x && y && false) ≡ false
and_false true true = refl
and_false true false = refl
and_false false true = refl
and_false false false = refl

middle_false : (p z : Bool) → (p && false && z) ≡ false
middle_false true z = refl
middle_false false z = refl

-- a bit of a number that gets the mask's bits besides its own
with_mask : (n mask k : ℕ) → bit_at (bit_or n mask) k ≡ max (bit_at n k) (one_if (has_class k mask))
with_mask n mask k = bit_at_or n mask k ∙ ap (λ b. max (bit_at n k) b) (sym (one_if-has_class k mask))

and_true : (x y z : Bool) → y ≡ true → z ≡ true → x ≡ (x && y && z)
and_true true true true h i = refl
and_true true true false h i = sym i
and_true true false z h i = sym h
and_true false true z h i = refl
and_true false false z h i = refl

-- a cell of a part lies in the rectangle
pub in_whole : (rect part : Rect) (cell : Cell) → IsPartOf rect part → IsInRect part cell → IsInRect rect cell
in_whole rect part cell is inside =
    let west = inside.west in let east = inside.east in let south = inside.south in let north = inside.north in
    let first_west = is.first.west in let first_south = is.first.south in let last_east = is.last.east in let last_north = is.last.north in
    record { west = omega arith; east = omega arith; south = omega arith; north = omega arith }

-- the blocked cells of one row are the span that was set
part_span : (rect part : Rect) (old new : Numbers) (mask j i0 i1 : ℕ) (hit : Cell → Bool) → IsPartOf rect part
    → ((cell : Cell) → IsInSpan j i0 i1 cell → new cell ≡ bit_or (old cell) mask)
    → ((cell : Cell) → IsInRect rect cell → ¬ IsInSpan j i0 i1 cell → new cell ≡ old cell)
    → ((cell : Cell) → IsInSpan j i0 i1 cell → IsTrue (hit cell) × IsInRect part cell)
    → ((cell : Cell) → IsInRect part cell → cell.j ≡ j → IsTrue (hit cell) → IsInSpan j i0 i1 cell)
    → IsRasterIn rect part (λ k cell. has_class k mask && cell.j == j && hit cell) old new
part_span rect part old new mask j i0 i1 hit is span others hits only = record {
  bits = λ cell k inside. let in_rect = in_whole rect part cell is inside in ⊎_elim
      (λ (row : cell.j ≡ j). ⊎_elim
      (λ (holds : hit cell ≡ true).
      let at = only cell inside row holds in
      ap (λ n. bit_at n k) (span cell at) ∙ with_mask (old cell) mask k
      ∙ ap (λ f. max (bit_at (old cell) k) (one_if f)) (and_true (has_class k mask) (cell.j == j) (hit cell) (eq-eqb cell.j j row) holds))
      (λ (fails : hit cell ≡ false).
      stays_bit (old cell) (new cell) k _ (others cell in_rect (λ at. absurd (both_ways (hit cell) fails (hits cell at).0)))
      (ap (λ f. has_class k mask && cell.j == j && f) fails ∙ and_false (has_class k mask) (cell.j == j)))
      (cases_Bool (hit cell)))
      (λ (elsewhere : cell.j ≡ j → ⊥).
      stays_bit (old cell) (new cell) k _ (others cell in_rect (λ at. absurd (elsewhere at.row)))
      (ap (λ f. has_class k mask && f && hit cell) (ne_eqb cell.j j elsewhere) ∙ middle_false (has_class k mask) (hit cell)))
      (cases_eq cell.j j);
  others = λ cell inside out. others cell inside (λ at. absurd (out (hits cell at).1));
}

-- the row's span, from the run of the blocked columns of a rectangle that holds all blocked cells of the part
pub part_run : (rect part reach : Rect) (old new : Numbers) (mask j first last : ℕ) (hit : Cell → Bool) → IsPartOf rect part → IsPartOf part reach
    → reach.j0 ≤ j → j ≤ reach.j1
    → ((cell : Cell) → IsInSpan j first last cell → new cell ≡ bit_or (old cell) mask)
    → ((cell : Cell) → IsInRect rect cell → ¬ IsInSpan j first last cell → new cell ≡ old cell)
    → ((i : ℕ) → reach.i0 ≤ i → i ≤ reach.i1 → (IsTrue (hit (cell_at i j)) ↔ ((first ≤ i) × (i ≤ last))))
    → reach.i0 ≤ first → last ≤ reach.i1
    → ((cell : Cell) → IsInRect part cell → IsTrue (hit cell) → IsInRect reach cell)
    → IsRasterIn rect part (λ k cell. has_class k mask && cell.j == j && hit cell) old new
part_run rect part reach old new mask j first last hit is within south north span others run west east reached =
    part_span rect part old new mask j first last hit is span others
    (λ cell at. let a = at.west in let b = at.east in let row = at.row in (
      subst (λ (r : ℕ). IsTrue (hit (cell_at cell.i r))) (sym at.row) ((run cell.i (omega arith) (omega arith)).1 (a, b)),
      in_whole part reach cell within (record { west = omega arith; east = omega arith; south = omega arith; north = omega arith }),
    ))
    (λ cell inside row holds. let in_reach = reached cell inside holds in
    let columns = (run cell.i in_reach.west in_reach.east).0 (subst (λ (r : ℕ). IsTrue (hit (cell_at cell.i r))) row holds) in
    record { row = row; west = columns.0; east = columns.1 })

-- no cell of the row is blocked
pub row_none : (mask j : ℕ) (part reach : Rect) (hit : Cell → Bool)
    → ((i : ℕ) → reach.i0 ≤ i → i ≤ reach.i1 → IsFalse (hit (cell_at i j)))
    → ((cell : Cell) → IsInRect part cell → IsTrue (hit cell) → IsInRect reach cell)
    → HoldsNowhere part (λ k cell. has_class k mask && cell.j == j && hit cell)
row_none mask j part reach hit free reached k cell inside = ⊎_elim
    (λ (row : cell.j ≡ j). ⊎_elim
    (λ (holds : hit cell ≡ true). let in_reach = reached cell inside holds in
    absurd (both_ways (hit cell) (subst (λ (r : ℕ). IsFalse (hit (cell_at cell.i r))) (sym row) (free cell.i in_reach.west in_reach.east)) holds))
    (λ (fails : hit cell ≡ false). ap (λ f. has_class k mask && cell.j == j && f) fails ∙ and_false (has_class k mask) (cell.j == j))
    (cases_Bool (hit cell)))
    (λ (elsewhere : cell.j ≡ j → ⊥). ap (λ f. has_class k mask && f && hit cell) (ne_eqb cell.j j elsewhere) ∙ middle_false (has_class k mask) (hit cell))
    (cases_eq cell.j j)

-- ---- row by row

-- the rows below row j are done
abbrev pub RowsTest : ℕ → ℕ → (Cell → Bool) → Test
RowsTest mask j hit = λ k cell. has_class k mask && nat_lt cell.j j && hit cell

spread_rows : (c x y h : Bool) → (c && x && h || c && y && h) ≡ (c && (x || y) && h)
spread_rows true true y true = refl
spread_rows true true true false = refl
spread_rows true true false false = refl
spread_rows true false y h = refl
spread_rows false x y h = refl

-- one row more
pub rows_more : (rect part : Rect) (mask j : ℕ) (hit : Cell → Bool) (a b c : Numbers) → IsRasterIn rect part (RowsTest mask j hit) a b
    → IsRasterIn rect part (λ k cell. has_class k mask && cell.j == j && hit cell) b c → IsRasterIn rect part (RowsTest mask (j + 1) hit) a c
rows_more rect part mask j hit a b c rows row =
    let row_test : Test = λ k cell. has_class k mask && cell.j == j && hit cell in
    part_alike rect part (λ k cell. RowsTest mask j hit k cell || row_test k cell) (RowsTest mask (j + 1) hit) a c
    (λ k cell inside. spread_rows (has_class k mask) (nat_lt cell.j j) (cell.j == j) (hit cell)
    ∙ ap (λ f. has_class k mask && f && hit cell) (below_next cell.j j))
    (part_both rect part (RowsTest mask j hit) row_test a b c rows row)

-- a row before the first one that is reached
pub rows_none : (rect part reach : Rect) (mask : ℕ) (hit : Cell → Bool) (a : Numbers)
    → ((cell : Cell) → IsInRect part cell → IsTrue (hit cell) → IsInRect reach cell) → IsRasterIn rect part (RowsTest mask reach.j0 hit) a a
rows_none rect part reach mask hit a reached =
    part_none rect part (RowsTest mask reach.j0 hit) a (λ k cell inside. ⊎_elim
    (λ (holds : hit cell ≡ true).
    let south = (reached cell inside holds).south in
    ap (λ f. has_class k mask && f && hit cell) (le-ltb cell.j reach.j0 south) ∙ middle_false (has_class k mask) (hit cell))
    (λ (fails : hit cell ≡ false). ap (λ f. has_class k mask && nat_lt cell.j reach.j0 && f) fails ∙ and_false (has_class k mask) (nat_lt cell.j reach.j0))
    (cases_Bool (hit cell)))
