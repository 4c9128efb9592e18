-- A patch's numbers are those of a grid of its own, whose first cell is the rectangle's.
use Rattle.std.proofs.Common.{◌≡◌, ℕ, ◌+◌, ◌-◌, ◌*◌, ◌≤◌, ◌<◌, length, get_or, sym, ap, ◌∙◌, arith}
use Rattle.nav_types.specs.declared.cells.Cell.{Cell}
use Rattle.nav_types.specs.declared.cells.Rect.{Rect}
use Rattle.nav_types.specs.declared.cells.Size.{Size}
use Rattle.nav_types.specs.Cells.{cell_at, IsInside, IsInRect}
use Rattle.nav_types.specs.Numbering.{Numbering, columns, rows, place_in, number_of}
use Rattle.navcell_grid.specs.Grids.{GridCells, number_at, IsWholeGrid, IsInSpan}
use Rattle.navcell_grid.specs.inner.Framing.{IsFramed}

-- the grid's cell that stands for a cell of the rectangle
abbrev pub local_of : Rect → Cell → Cell
local_of rect cell = cell_at (cell.i - rect.i0) (cell.j - rect.j0)

-- the patch of a rectangle and a grid
abbrev pub framed : Rect → GridCells → Numbering
framed rect grid = record { rect = rect; numbers = grid.cells }

pub number_local : (rect : Rect) (grid : GridCells) (cell : Cell) → grid.size.w ≡ columns rect
    → number_of (framed rect grid) cell ≡ number_at grid (local_of rect cell)
unfolding number_of place_in
number_local rect grid cell wide = ap (λ (w : ℕ). get_or grid.cells ((cell.j - rect.j0) * w + (cell.i - rect.i0)) 0) (sym wide)

pub number_old : (rect : Rect) (grid : GridCells) (patch : Numbering) (cell : Cell) → grid.size.w ≡ columns rect → framed rect grid ≡ patch
    → number_at grid (local_of rect cell) ≡ number_of patch cell
number_old rect grid patch cell wide same = sym (number_local rect grid cell wide) ∙ ap (λ (p : Numbering). number_of p cell) same

pub local-inside : (rect : Rect) (grid : GridCells) (cell : Cell) → IsFramed rect grid → IsInRect rect cell → IsInside grid.size (local_of rect cell)
local-inside rect grid cell frame inside =
    let west = inside.west in let east = inside.east in let south = inside.south in let north = inside.north in
    let wide = frame.wide in let high = frame.high in
    record { column = omega arith; row = omega arith }

pub framed-again : (rect : Rect) (old new : GridCells) → IsFramed rect old → new.size ≡ old.size → IsFramed rect new
framed-again rect old new frame same = record {
  extent = frame.extent;
  wide = ap (λ (s : Size). s.w) same ∙ frame.wide;
  high = ap (λ (s : Size). s.h) same ∙ frame.high;
}

-- the grid has one number for each cell of the rectangle
pub framed-whole : (rect : Rect) (grid : GridCells) → IsFramed rect grid → IsWholeGrid grid → length grid.cells ≡ columns rect * rows rect
framed-whole rect grid frame whole = whole ∙ ap (λ (w : ℕ). w * grid.size.h) frame.wide ∙ ap (λ (h : ℕ). columns rect * h) frame.high

-- a span of a row in the grid
pub span-local : (rect : Rect) (j i0 i1 : ℕ) (cell : Cell) → rect.i0 ≤ i0 → IsInSpan j i0 i1 cell
    → IsInSpan (j - rect.j0) (i0 - rect.i0) (i1 - rect.i0) (local_of rect cell)
span-local rect j i0 i1 cell first at =
    let west = at.west in let east = at.east in
    record { row = ap (λ (r : ℕ). r - rect.j0) at.row; west = omega arith; east = omega arith }

pub span-back : (rect : Rect) (j i0 i1 : ℕ) (cell : Cell) → rect.j0 ≤ j → rect.i0 ≤ i0 → rect.i0 ≤ i1 → IsInRect rect cell
    → IsInSpan (j - rect.j0) (i0 - rect.i0) (i1 - rect.i0) (local_of rect cell) → IsInSpan j i0 i1 cell
span-back rect j i0 i1 cell south first last inside at =
    let row = at.row in let west = at.west in let east = at.east in
    let w = inside.west in let s = inside.south in
    record { row = omega arith; west = omega arith; east = omega arith }

pub minus_minus : (i0 first i : ℕ) → first ≤ i0 → i0 ≤ i → i - first - (i0 - first) ≡ i - i0
minus_minus i0 first i from to = omega arith

-- the rows of the rectangle below row j have the other numbers, and all other cells their old ones
pub record IsCopied (numbers : Cell → ℕ) (rect : Rect) (j : ℕ) (old now : Numbering) : Type 0 where
  pub extent : now.rect ≡ old.rect
  pub copied : (cell : Cell) → IsInRect rect cell → cell.j < j → number_of now cell ≡ numbers cell
  pub others : (cell : Cell) → IsInRect old.rect cell → (IsInRect rect cell → j ≤ cell.j) → number_of now cell ≡ number_of old cell
