-- The cells of a patch as a list: the cell at a place, the free cells, the bits that differ.
use Rattle.std.proofs.Common.{◌≡◌, ◌≢◌, ℕ, ◌+◌, ◌-◌, ◌*◌, ◌/◌, ◌%◌, ◌<◌, ◌≤◌, ◌==◌, ◌↔◌, Bool, true, false, not, cond, List, length, get_or, refl, sym, ap, subst, ◌∙◌, ⊎_elim, arith}
use Rattle.std.specs.Prelude.{IsFalse, bit_or}
use Rattle.std.specs.List.{count_by}
use Rattle.std.specs.Int.{bit_at}
use Rattle.std.proofs.lemmas.Bool.{not_from_false, not-true, cases_lt, cases_eq, eq-eqb, ne_eqb, both_ways}
use Rattle.std.proofs.lemmas.Nat.Bits.{bit_at-lt, bit_at-zero, bit_at_or}
use Rattle.std.proofs.lemmas.List.Sums.{length-filter}
use Rattle.std.proofs.lemmas.List.Filters.{length-filter_both}
use Rattle.std.proofs.lemmas.Nat.{mul-add-lt, div-mul-add, mod-mul-add, div_below, mod_below, div-add-mod'}
use Rattle.std.proofs.lemmas.Option.{get_or_from_slice_get}
use Rattle.nav_types.specs.declared.cells.Cell.{Cell}
use Rattle.nav_types.specs.declared.cells.Rect.{Rect}
use Rattle.nav_types.specs.Cells.{cell_at, IsInRect}
use Rattle.nav_types.specs.Counting.{Counts}
use Rattle.nav_types.specs.Numbering.{Numbering, columns, rows, place_in, number_of}
use Rattle.nav_types.proofs.CellOrder.{same_cell}
use Rattle.nav_types.proofs.Items.{same_pair}
use Rattle.nav_types.proofs.Counting.{Counts-listed, Counts-one, Counts-none, Counts-carried}
use Rattle.nav_types.proofs.Bits.{set_in_either}
use Rattle.lane_rows.specs.Rows.{has_class, DifferIn}
use Rattle.navcell_grid.specs.Grids.{IsInSpan}
use Rattle.navcell_grid.specs.Patches.{free_count, DiffersIn}

-- ---- free cells

free_and_blocked : (p : ℕ → Bool) (xs : List ℕ) → count_by p xs + count_by (λ x. not (p x)) xs ≡ length xs
free_and_blocked p xs =
    let both = length-filter_both p (λ x. not (p x)) (λ x. refl) xs in
    omega (arith, both, length-filter p xs, length-filter (λ x. not (p x)) xs)

-- what is not blocked is free
pub free-rest : (k : ℕ) (numbers : List ℕ) → length numbers - count_by (has_class k) numbers ≡ free_count k numbers
free-rest k numbers = omega (arith, free_and_blocked (has_class k) numbers)

-- ---- places of a rectangle's cells

-- the cell at a place
pub cell_in : Rect → ℕ → Cell
cell_in rect place = cell_at (rect.i0 + place % columns rect) (rect.j0 + place / columns rect)

pub cell_in-inside : (rect : Rect) (place : ℕ) → place < columns rect * rows rect → rect.i0 ≤ rect.i1 → rect.j0 ≤ rect.j1 → IsInRect rect (cell_in rect place)
unfolding cell_in
cell_in-inside rect place low ordered upright =
    let column = mod_below place (columns rect) (omega arith) in
    let row = div_below place (columns rect) (rows rect) (omega arith) (omega (arith, low)) in
    record { west = omega arith; east = omega arith; south = omega arith; north = omega arith }

pub place_in-cell_in : (rect : Rect) (place : ℕ) → place_in rect (cell_in rect place) ≡ place
unfolding cell_in place_in
place_in-cell_in rect place =
    let down : rect.j0 + place / columns rect - rect.j0 ≡ place / columns rect = omega arith in
    let left : rect.i0 + place % columns rect - rect.i0 ≡ place % columns rect = omega arith in
    ap (λ n. n * columns rect + (rect.i0 + place % columns rect - rect.i0)) down
    ∙ ap (λ n. place / columns rect * columns rect + n) left ∙ div-add-mod' place (columns rect)

pub cell_in-place_in : (rect : Rect) (cell : Cell) → IsInRect rect cell → cell_in rect (place_in rect cell) ≡ cell
unfolding cell_in place_in
cell_in-place_in rect cell inside =
    let west = inside.west in let east = inside.east in let south = inside.south in
    let column = mod-mul-add (cell.j - rect.j0) (columns rect) (cell.i - rect.i0) (omega arith) in
    let row = div-mul-add (cell.j - rect.j0) (columns rect) (cell.i - rect.i0) (omega arith) in
    same_cell (cell_in rect (place_in rect cell)) cell (omega arith) (omega arith)

pub place_in-low : (rect : Rect) (cell : Cell) → IsInRect rect cell → place_in rect cell < columns rect * rows rect
unfolding place_in
place_in-low rect cell inside =
    let west = inside.west in let east = inside.east in let south = inside.south in let north = inside.north in
    let below = mul-add-lt (cell.j - rect.j0) (columns rect) (cell.i - rect.i0) (rows rect) (omega arith) (omega arith) in
    omega (arith, below)

-- ---- the free cells of a rectangle

-- a cell of the rectangle that is free for class k
abbrev pub IsFreeCell : Numbering → ℕ → Cell → Type 0
IsFreeCell cells k cell = IsInRect cells.rect cell × IsFalse (has_class k (number_of cells cell))

module _ (cells : Numbering) (k : ℕ) (ordered : cells.rect.i0 ≤ cells.rect.i1) (upright : cells.rect.j0 ≤ cells.rect.j1)
    (whole : length cells.numbers ≡ columns cells.rect * rows cells.rect) where
  IsFreePlace : ℕ × Unit {0} → Type 0
  IsFreePlace p = (p.0 < length cells.numbers) × (not (has_class k (get_or cells.numbers p.0 0)) ≡ true)

  one_place : (n : ℕ) (P : Type 0) (free : Bool) → (free ≡ true) ↔ P → Counts (λ (u : Unit {0}). P) (cond free 1 0)
  one_place n P true means = Counts-one (λ (u : Unit {0}). P) tt (means.0 refl) (λ u is. refl)
  one_place n P false means = Counts-none (λ (u : Unit {0}). P) (λ u is. absurd (cc (means.1 is)))

  places_counted : Counts IsFreePlace (free_count k cells.numbers)
  unfolding IsFreePlace
  places_counted =
      Counts-listed (λ place (u : Unit {0}). not (has_class k (get_or cells.numbers place 0)) ≡ true)
      (λ number. cond (not (has_class k number)) 1 0) cells.numbers (length cells.numbers) refl
      (λ place number at.
      let is : get_or cells.numbers place 0 ≡ number = get_or_from_slice_get cells.numbers place number 0 at in
      one_place place (not (has_class k (get_or cells.numbers place 0)) ≡ true) (not (has_class k number))
      ((λ free. ap (λ n. not (has_class k n)) is ∙ free), (λ free. ap (λ n. not (has_class k n)) (sym is) ∙ free)))

  pub free_counted : Counts (IsFreeCell cells k) (free_count k cells.numbers)
  unfolding IsFreePlace number_of
  free_counted =
      Counts-carried IsFreePlace (IsFreeCell cells k) (λ p. cell_in cells.rect p.0) (free_count k cells.numbers)
      (λ p is. (
        cell_in-inside cells.rect p.0 (omega (arith, is.0)) ordered upright,
        ap (λ place. has_class k (get_or cells.numbers place 0)) (place_in-cell_in cells.rect p.0)
            ∙ not-true (has_class k (get_or cells.numbers p.0 0)) is.1,
      ))
      (λ cell is. (
        (place_in cells.rect cell, tt),
        (
          (omega (arith, place_in-low cells.rect cell is.0), not_from_false (has_class k (get_or cells.numbers (place_in cells.rect cell) 0)) is.1),
          cell_in-place_in cells.rect cell is.0,
        ),
      ))
      (λ a b is_a is_b same.
      same_pair a b
      (sym (place_in-cell_in cells.rect a.0) ∙ ap (λ cell. place_in cells.rect cell) same ∙ place_in-cell_in cells.rect b.0) refl)
      places_counted

-- ---- cells that differ

zero : (b : ℕ) → b < 2 → (b ≡ 1 → ⊥) → b ≡ 0
zero b low clear = ⊎_elim (λ (less : b < 1). omega arith) (λ (more : 1 ≤ b). absurd (clear (omega arith))) (cases_lt b 1)

-- bits are alike where both are set or both are clear
apart_bits : (k m n : ℕ) → bit_at m k ≢ bit_at n k → has_class k m ≢ has_class k n
apart_bits k m n apart same = ⊎_elim
    (λ (set : bit_at m k ≡ 1). ⊎_elim
    (λ (other : bit_at n k ≡ 1). apart (set ∙ sym other))
    (λ (clear : bit_at n k ≡ 1 → ⊥). both_ways (bit_at n k == 1) (ne_eqb (bit_at n k) 1 clear) (sym same ∙ eq-eqb (bit_at m k) 1 set))
    (cases_eq (bit_at n k) 1))
    (λ (clear : bit_at m k ≡ 1 → ⊥). ⊎_elim
    (λ (set : bit_at n k ≡ 1). both_ways (bit_at m k == 1) (ne_eqb (bit_at m k) 1 clear) (same ∙ eq-eqb (bit_at n k) 1 set))
    (λ (other : bit_at n k ≡ 1 → ⊥). apart (zero (bit_at m k) (bit_at-lt m k) clear ∙ sym (zero (bit_at n k) (bit_at-lt n k) other)))
    (cases_eq (bit_at n k) 1))
    (cases_eq (bit_at m k) 1)

apart_classes : (k m n : ℕ) → has_class k m ≢ has_class k n → bit_at m k ≢ bit_at n k
apart_classes k m n apart same = apart (ap (λ b. b == 1) same)

pub differs_in_cells : (k : ℕ) (a b : Numbering) → a.rect ≡ b.rect → b.rect.i0 ≤ b.rect.i1 → b.rect.j0 ≤ b.rect.j1
    → length a.numbers ≡ columns a.rect * rows a.rect → DifferIn k a.numbers b.numbers ↔ DiffersIn k b.rect a b
unfolding number_of
differs_in_cells k a b same ordered upright whole = (
  λ differs.
      let place = differs.0 in
      let low : place < columns b.rect * rows b.rect = subst (λ (r : Rect). place < columns r * rows r) same (omega (arith, differs.1)) in
      let here = place_in-cell_in b.rect place in
      let there : place_in a.rect (cell_in b.rect place) ≡ place = ap (λ (r : Rect). place_in r (cell_in b.rect place)) same ∙ here in
      record {
        cell = cell_in b.rect place;
        inside = cell_in-inside b.rect place low ordered upright;
        apart = λ equal. apart_bits k (get_or a.numbers place 0) (get_or b.numbers place 0) differs.2
            (ap (λ p. has_class k (get_or a.numbers p 0)) (sym there) ∙ equal ∙ ap (λ p. has_class k (get_or b.numbers p 0)) here);
      },
  λ differs.
      let cell = differs.cell in
      let there : place_in a.rect cell ≡ place_in b.rect cell = ap (λ (r : Rect). place_in r cell) same in
      let low : place_in b.rect cell < columns b.rect * rows b.rect = place_in-low b.rect cell differs.inside in
      let long : length a.numbers ≡ columns b.rect * rows b.rect = whole ∙ ap (λ (r : Rect). columns r * rows r) same in (
        place_in b.rect cell,
        omega arith,
        apart_classes k (get_or a.numbers (place_in b.rect cell) 0) (get_or b.numbers (place_in b.rect cell) 0)
            (λ equal. differs.apart (ap (λ p. has_class k (get_or a.numbers p 0)) there ∙ equal)),
      ),
)

-- ---- cells that differ, row by row

-- bit k differs in some cell of the rectangle's rows below row j
pub record DiffersBelow (k : ℕ) (rect : Rect) (j : ℕ) (a b : Numbering) : Type 0 where
  pub cell : Cell
  pub inside : IsInRect rect cell
  pub below : cell.j < j
  pub apart : has_class k (number_of a cell) ≢ has_class k (number_of b cell)

pub differs_below_none : (rect : Rect) (a b : Numbering) (k : ℕ) → (bit_at 0 k ≡ 1) ↔ DiffersBelow k rect rect.j0 a b
differs_below_none rect a b k = (
  λ set. let none = bit_at-zero k in absurd (omega arith),
  λ differs. let below = differs.below in let south = differs.inside.south in absurd (omega arith),
)

pub differs_below_all : (k : ℕ) (rect : Rect) (j bits : ℕ) (a b : Numbering) → j ≡ rect.j1 + 1 → (bit_at bits k ≡ 1) ↔ DiffersBelow k rect j a b
    → (bit_at bits k ≡ 1) ↔ DiffersIn k rect a b
differs_below_all k rect j bits a b last is = (
  λ set. let d = is.0 set in record { cell = d.cell; inside = d.inside; apart = d.apart },
  λ d. let north = d.inside.north in is.1 (record { cell = d.cell; inside = d.inside; below = omega arith; apart = d.apart }),
)

-- the numbers of a row of the rectangle
abbrev pub AreOfRow : Rect → ℕ → Numbering → List ℕ → Type 0
AreOfRow rect j a xs = (cell : Cell) → IsInSpan j rect.i0 rect.i1 cell → get_or xs (cell.i - rect.i0) 0 ≡ number_of a cell

pub differs_below_more : (k : ℕ) (rect : Rect) (j bits more : ℕ) (a b : Numbering) (xs ys : List ℕ) → rect.i0 ≤ rect.i1 → rect.j0 ≤ j → j ≤ rect.j1
    → length xs ≡ rect.i1 - rect.i0 + 1 → AreOfRow rect j a xs → AreOfRow rect j b ys
    → (bit_at more k ≡ 1) ↔ DifferIn k xs ys → (bit_at bits k ≡ 1) ↔ DiffersBelow k rect j a b
    → (bit_at (bit_or bits more) k ≡ 1) ↔ DiffersBelow k rect (j + 1) a b
differs_below_more k rect j bits more a b xs ys ordered south north long row_a row_b row_is is = (
  λ set. ⊎_elim
      (λ (old : bit_at bits k ≡ 1). let d = is.0 old in let below = d.below in
      record { cell = d.cell; inside = d.inside; below = omega arith; apart = d.apart })
      (λ (new : bit_at more k ≡ 1).
      let d = row_is.0 new in
      let place = d.0 in
      let low : place < length xs = d.1 in
      let cell = cell_at (rect.i0 + place) j in
      let at : IsInSpan j rect.i0 rect.i1 cell = record { row = refl; west = omega arith; east = omega arith } in
      let back : rect.i0 + place - rect.i0 ≡ place = omega arith in
      record {
        cell = cell;
        inside = record { west = omega arith; east = omega arith; south = south; north = north };
        below = omega arith;
        apart = λ same. apart_bits k (get_or xs place 0) (get_or ys place 0) d.2
            (ap (λ (p : ℕ). has_class k (get_or xs p 0)) (sym back) ∙ ap (has_class k) (row_a cell at) ∙ same
            ∙ ap (has_class k) (sym (row_b cell at)) ∙ ap (λ (p : ℕ). has_class k (get_or ys p 0)) back);
      })
      (set_in_either (bit_at bits k) (bit_at more k) (bit_at-lt bits k) (bit_at-lt more k) (sym (bit_at_or bits more k) ∙ set)),
  λ d.
      let cell = d.cell in let inside = d.inside in let under = d.below in
      let low_bits = bit_at-lt bits k in let low_more = bit_at-lt more k in
      let either = bit_at_or bits more k in
      ⊎_elim
      (λ (below : cell.j < j).
      let old = is.1 (record { cell = cell; inside = inside; below = below; apart = d.apart }) in omega arith)
      (λ (above : j ≤ cell.j).
      let row : cell.j ≡ j = omega arith in
      let west = inside.west in let east = inside.east in
      let at : IsInSpan j rect.i0 rect.i1 cell = record { row = row; west = west; east = east } in
      let new = row_is.1 (
        cell.i - rect.i0,
        omega arith,
        apart_classes k (get_or xs (cell.i - rect.i0) 0) (get_or ys (cell.i - rect.i0) 0)
            (λ same. d.apart (ap (has_class k) (sym (row_a cell at)) ∙ same ∙ ap (has_class k) (row_b cell at))),
      ) in omega arith)
      (cases_lt cell.j j),
)
