-- Marks of rectangles in a grid.
use Rattle.std.proofs.Common.{◌≡◌, ℕ, ◌+◌, ◌-◌, ◌*◌, ◌<◌, ◌≤◌, ◌⊎◌, inl, inr, Bool, true, false, ◌&&◌, ◌||◌, max, List, refl, sym, ap, subst, ◌∙◌, ⊎_elim, arith}
use Rattle.std.specs.Prelude.{bit_or, Contains}
use Rattle.std.specs.Int.{bit_at}
use Rattle.std.proofs.lemmas.Nat.Bits.{bit_at_or}
use Rattle.std.proofs.lemmas.Bool.{cases_lt, cases_eq, cases_Bool, both_ways, and_parts, and_from, false_from_ne_true, true_from_ne_false}
use Rattle.nav_types.specs.declared.cells.Cell.{Cell}
use Rattle.nav_types.specs.declared.cells.Rect.{Rect}
use Rattle.nav_types.specs.declared.cells.Size.{Size}
use Rattle.nav_types.specs.Cells.{cell_at, IsInside, IsInRect}
use Rattle.nav_types.specs.Numbering.{rows}
use Rattle.lane_rows.specs.Rows.{has_class}
use Rattle.navcell_grid.specs.Grids.{GridCells, number_at, IsInSpan}
use Rattle.clearance_raster.proofs.Rastering.{one_if-has_class}
use Rattle.grid_versions.specs.Passing.{is_in_rect, is_listed}
use Rattle.grid_versions.specs.inner.Marking.{IsMarked, AreMarks}
use Rattle.grid_versions.proofs.PassingLemmas.{in_rect_from, in_rect_to, none_meets, any_none}
use Rattle.grid_versions.proofs.PaintLemmas.{class_after}

-- ---- bits

class_or : (k a b : ℕ) → has_class k (bit_or a b) ≡ (has_class k a || has_class k b)
class_or k a b =
    class_after a (bit_or a b) k (has_class k b)
    (bit_at_or a b k ∙ ap (λ n. max (bit_at a k) n) (sym (one_if-has_class k b)))

or_first : (a b : Bool) → a ≡ true → (a || b) ≡ true
or_first true b is = refl
or_first false b is = absurd (both_ways false refl is)

or_second : (a b : Bool) → b ≡ true → (a || b) ≡ true
or_second true b is = refl
or_second false b is = is

or_either : (a b : Bool) → (a || b) ≡ true → (a ≡ true) ⊎ (b ≡ true)
or_either true b is = inl refl
or_either false b is = inr is

set_first : (k a b : ℕ) → has_class k a ≡ true → has_class k (bit_or a b) ≡ true
set_first k a b set = class_or k a b ∙ or_first (has_class k a) (has_class k b) set

set_second : (k a b : ℕ) → has_class k b ≡ true → has_class k (bit_or a b) ≡ true
set_second k a b set = class_or k a b ∙ or_second (has_class k a) (has_class k b) set

set_either : (k a b : ℕ) → has_class k (bit_or a b) ≡ true → (has_class k a ≡ true) ⊎ (has_class k b ≡ true)
set_either k a b set = or_either (has_class k a) (has_class k b) (sym (class_or k a b) ∙ set)

-- ---- a span of a row

in_span : (r i0 i1 : ℕ) (cell : Cell) → IsInSpan r i0 i1 cell ⊎ (¬ IsInSpan r i0 i1 cell)
in_span r i0 i1 cell = ⊎_elim
    (λ (row : cell.j ≡ r). ⊎_elim
    (λ (before : cell.i < i0). inr (λ at. let west = at.west in omega arith))
    (λ (west : i0 ≤ cell.i). ⊎_elim
    (λ (past : i1 < cell.i). inr (λ at. let east = at.east in omega arith))
    (λ (east : cell.i ≤ i1). inl (record { row = row; west = west; east = east }))
    (cases_lt i1 cell.i))
    (cases_lt cell.i i0))
    (λ (other : cell.j ≡ r → ⊥). inr (λ at. other at.row))
    (cases_eq cell.j r)

module _ (old new : GridCells) (r : ℕ) (rect : Rect) (mask run : ℕ)
    (span : (cell : Cell) → IsInSpan r rect.i0 rect.i1 cell → number_at new cell ≡ bit_or (number_at old cell) mask)
    (others : (cell : Cell) → IsInside old.size cell → ¬ IsInSpan r rect.i0 rect.i1 cell
    → number_at new cell ≡ number_at old cell) where
  bit_kept : (k : ℕ) (cell : Cell) → IsInside old.size cell → has_class k (number_at old cell) ≡ true
      → has_class k (number_at new cell) ≡ true
  bit_kept k cell inside set = ⊎_elim
      (λ (here : IsInSpan r rect.i0 rect.i1 cell).
      ap (has_class k) (span cell here) ∙ set_first k (number_at old cell) mask set)
      (λ (out : ¬ IsInSpan r rect.i0 rect.i1 cell). ap (has_class k) (others cell inside out) ∙ set)
      (in_span r rect.i0 rect.i1 cell)

  -- a mark stays
  pub mark_kept : (k : ℕ) (cell : Cell) → IsInside old.size cell → IsMarked old run k cell → IsMarked new run k cell
  mark_kept k cell inside m =
      let south = m.south in let row = inside.row in
      record {
        row = m.row;
        south = m.south;
        north = m.north;
        set = bit_kept k (cell_at cell.i m.row) (record { column = inside.column; row = omega arith }) m.set;
      }

  -- a mark of the span stands for the cells from its row on
  pub span_marked : (k : ℕ) (cell : Cell) → has_class k mask ≡ true → IsInRect rect cell → r ≤ cell.j → cell.j < r + run
      → IsMarked new run k cell
  span_marked k cell set inside south north = record {
    row = r;
    south = south;
    north = north;
    set = ap (has_class k) (span (cell_at cell.i r) (record { row = refl; west = inside.west; east = inside.east }))
        ∙ set_second k (number_at old (cell_at cell.i r)) mask set;
  }

  -- a mark is an old one, or of the span
  pub mark_from : rect.j0 ≤ r → r + run ≤ rect.j1 + 1 → (k : ℕ) (cell : Cell) → IsInside old.size cell
      → IsMarked new run k cell → IsMarked old run k cell ⊎ ((has_class k mask ≡ true) × IsInRect rect cell)
  mark_from first last k cell inside m =
      let at = cell_at cell.i m.row in
      let south = m.south in let north = m.north in let row = inside.row in
      ⊎_elim
      (λ (here : IsInSpan r rect.i0 rect.i1 at). ⊎_elim
      (λ (set : has_class k (number_at old at) ≡ true).
      inl (record { row = m.row; south = m.south; north = m.north; set = set }))
      (λ (set : has_class k mask ≡ true).
      let of = here.row in
      inr (set, record { west = here.west; east = here.east; south = omega arith; north = omega arith }))
      (set_either k (number_at old at) mask (sym (ap (has_class k) (span at here)) ∙ m.set)))
      (λ (out : ¬ IsInSpan r rect.i0 rect.i1 at).
      inl (record {
        row = m.row;
        south = m.south;
        north = m.north;
        set = sym (ap (has_class k) (others at (record { column = inside.column; row = omega arith }) out)) ∙ m.set;
      }))
      (in_span r rect.i0 rect.i1 at)

-- two rows of marks hold a rectangle that has at most twice as many rows
pub two_rows : (rect : Rect) (run r : ℕ) (cell : Cell) → r + run ≡ rect.j1 + 1 → rows rect ≤ 2 * run → IsInRect rect cell
    → (cell.j < rect.j0 + run) ⊎ (r ≤ cell.j)
two_rows rect run r cell last few inside =
    let south = inside.south in let north = inside.north in
    ⊎_elim (λ (low : cell.j < rect.j0 + run). inl low) (λ (high : rect.j0 + run ≤ cell.j). inr (omega arith))
    (cases_lt cell.j (rect.j0 + run))

-- ---- each mark becomes two

module _ (old new : GridCells) (run step : ℕ) (few : step ≤ run - step) (some : 1 ≤ step)
    (first : (cell : Cell) → IsInside old.size cell → cell.j < step → number_at new cell ≡ number_at old cell)
    (later : (cell : Cell) → IsInside old.size cell → step ≤ cell.j
    → number_at new cell ≡ bit_or (number_at old cell) (number_at old (cell_at cell.i (cell.j - step)))) where
  -- a mark stands for the same cells as the two
  pub spread_to : (k : ℕ) (cell : Cell) → IsInside old.size cell → IsMarked old run k cell → IsMarked new (run - step) k cell
  spread_to k cell inside m =
      let south = m.south in let north = m.north in let row = inside.row in
      ⊎_elim
      (λ (near : cell.j < m.row + (run - step)).
      let at = cell_at cell.i m.row in
      let at_inside : IsInside old.size at = record { column = inside.column; row = omega arith } in
      record {
        row = m.row;
        south = m.south;
        north = near;
        set = ⊎_elim
            (λ (low : m.row < step). ap (has_class k) (first at at_inside low) ∙ m.set)
            (λ (high : step ≤ m.row). ap (has_class k) (later at at_inside high)
            ∙ set_first k (number_at old at) (number_at old (cell_at cell.i (m.row - step))) m.set)
            (cases_lt m.row step);
      })
      (λ (far : m.row + (run - step) ≤ cell.j).
      let at = cell_at cell.i (m.row + step) in
      let back : m.row + step - step ≡ m.row = omega arith in
      record {
        row = m.row + step;
        south = omega arith;
        north = omega arith;
        set = ap (has_class k) (later at (record { column = inside.column; row = omega arith }) (omega arith))
            ∙ set_second k (number_at old at) (number_at old (cell_at cell.i (m.row + step - step)))
            (ap (λ j. has_class k (number_at old (cell_at cell.i j))) back ∙ m.set);
      })
      (cases_lt cell.j (m.row + (run - step)))

  -- and the two for no others
  pub spread_from : (k : ℕ) (cell : Cell) → IsInside old.size cell → IsMarked new (run - step) k cell → IsMarked old run k cell
  spread_from k cell inside m =
      let south = m.south in let north = m.north in let row = inside.row in
      let at = cell_at cell.i m.row in
      let at_inside : IsInside old.size at = record { column = inside.column; row = omega arith } in
      ⊎_elim
      (λ (low : m.row < step). record {
        row = m.row;
        south = m.south;
        north = omega arith;
        set = sym (ap (has_class k) (first at at_inside low)) ∙ m.set;
      })
      (λ (high : step ≤ m.row). ⊎_elim
      (λ (set : has_class k (number_at old at) ≡ true).
      record { row = m.row; south = m.south; north = omega arith; set = set })
      (λ (set : has_class k (number_at old (cell_at cell.i (m.row - step))) ≡ true).
      record { row = m.row - step; south = omega arith; north = omega arith; set = set })
      (set_either k (number_at old at) (number_at old (cell_at cell.i (m.row - step)))
      (sym (ap (has_class k) (later at at_inside high)) ∙ m.set)))
      (cases_lt m.row step)

-- ---- all rectangles

-- a rectangle of the list covers its cells
pub listed_from : (base : List (Rect × ℕ)) (rect : Rect) (mask k : ℕ) (cell : Cell) → Contains base (rect, mask)
    → has_class k mask ≡ true → IsInRect rect cell → is_listed base k cell ≡ true
listed_from base rect mask k cell has set inside = true_from_ne_false (is_listed base k cell) (λ none.
    both_ways (has_class k mask && is_in_rect rect cell)
    (none_meets (λ (entry : Rect × ℕ). has_class k entry.1 && is_in_rect entry.0 cell) base none (rect, mask) has)
    (and_from (has_class k mask) (is_in_rect rect cell) set (in_rect_to rect cell inside)))

-- marks that stand for their own cell alone
pub marks_are_bits : (base : List (Rect × ℕ)) (size : Size) (grid : GridCells) → AreMarks base size 1 grid
    → (k : ℕ) (cell : Cell) → IsInside size cell → has_class k (number_at grid cell) ≡ is_listed base k cell
marks_are_bits base size grid marks k cell inside =
    let inside_grid : IsInside grid.size cell = subst (λ (s : Size). IsInside s cell) (sym marks.extent) inside in
    ⊎_elim
    (λ (set : has_class k (number_at grid cell) ≡ true).
    set ∙ sym (marks.within k cell inside_grid
    (record { row = cell.j; south = omega arith; north = omega arith; set = set })))
    (λ (clear : has_class k (number_at grid cell) ≡ false).
    clear ∙ sym (any_none (λ (entry : Rect × ℕ). has_class k entry.1 && is_in_rect entry.0 cell) base
    (λ entry has. false_from_ne_true (has_class k entry.1 && is_in_rect entry.0 cell) (λ is.
    let parts = and_parts (has_class k entry.1) (is_in_rect entry.0 cell) is in
    let at = in_rect_from entry.0 cell parts.1 in
    let south = at.south in let north = at.north in
    let m = marks.all entry.0 entry.1 has (omega arith) k cell parts.0 at in
    let from = m.south in let to = m.north in
    let here : m.row ≡ cell.j = omega arith in
    both_ways (has_class k (number_at grid cell)) clear
    (sym (ap (λ j. has_class k (number_at grid (cell_at cell.i j))) here) ∙ m.set)))))
    (cases_Bool (has_class k (number_at grid cell)))
