-- The places of a span of a row among all cells, and a rectangle that is written row by row.
use Rattle.std.proofs.Common.{◌≡◌, ◌≢◌, ℕ, ◌+◌, ◌-◌, ◌*◌, ◌<◌, ◌≤◌, ◌⊎◌, inl, inr, ⊎_elim, List, get_or, refl, sym, ap, subst, ◌∙◌, arith}
use Rattle.std.specs.Prelude.{bit_or}
use Rattle.std.proofs.Math.Nat.{mul-le-mul_right}
use Rattle.std.proofs.lemmas.Bool.{cases_lt}
use Rattle.nav_types.specs.declared.cells.Cell.{Cell}
use Rattle.nav_types.specs.declared.cells.Rect.{Rect}
use Rattle.nav_types.specs.declared.cells.Size.{Size}
use Rattle.nav_types.specs.Cells.{cell_at, IsInside, IsInRect}
use Rattle.nav_types.specs.Places.{place_of}
use Rattle.navcell_grid.specs.Grids.{GridCells, number_at, IsInSpan}

-- a cell of a row comes before each cell of the rows after it
before_next_row : (w j k i : ℕ) → j < k → i < w → j * w + i < k * w
before_next_row w j k i later column =
    let next : j + 1 ≤ k = omega arith in
    omega (arith, mul-le-mul_right w next)

-- a cell that is not in the span has its place before it or past it
out_of_span : (size : Size) (j i0 i1 : ℕ) (cell : Cell) → i0 ≤ i1 → i1 < size.w → IsInside size cell → ¬ IsInSpan j i0 i1 cell
    → (place_of size cell < j * size.w + i0) ⊎ (j * size.w + i1 + 1 ≤ place_of size cell)
out_of_span size j i0 i1 cell ordered last inside out =
    let column = inside.column in
    ⊎_elim
    (λ (south : cell.j < j). inl (omega (arith, before_next_row size.w cell.j j cell.i south column)))
    (λ (above : j ≤ cell.j). ⊎_elim
    (λ (north : j < cell.j). inr (omega (arith, before_next_row size.w j cell.j i1 north last)))
    (λ (under : cell.j ≤ j).
    let row : cell.j ≡ j = omega arith in
    let same : cell.j * size.w ≡ j * size.w = subst (λ r. cell.j * size.w ≡ r * size.w) row refl in
    ⊎_elim
    (λ (west : cell.i < i0). inl (omega arith))
    (λ (from : i0 ≤ cell.i). ⊎_elim
    (λ (east : i1 < cell.i). inr (omega arith))
    (λ (to : cell.i ≤ i1). absurd (out (record { row = row; west = from; east = to })))
    (cases_lt i1 cell.i))
    (cases_lt cell.i i0))
    (cases_lt j cell.j))
    (cases_lt cell.j j)

-- what stays outside the places of a span stays for each cell that is not in it
pub stays_out_of_span : (old new : GridCells) (size : Size) (j i0 i1 from to : ℕ) (before after : List ℕ) → i0 ≤ i1 → i1 < old.size.w
    → size ≡ old.size → new.size ≡ old.size → before ≡ old.cells → new.cells ≡ after
    → from ≡ place_of size (cell_at i0 j) → to ≡ place_of size (cell_at i1 j)
    → ((k : ℕ) → (k < from) ⊎ (to + 1 ≤ k) → get_or after k 0 ≡ get_or before k 0)
    → (cell : Cell) → IsInside old.size cell → ¬ IsInSpan j i0 i1 cell → number_at new cell ≡ number_at old cell
stays_out_of_span old new size j i0 i1 from to before after ordered last size_is same_size same_cells new_cells from_is to_is outside cell inside out =
    let from_old : from ≡ place_of old.size (cell_at i0 j) = from_is ∙ ap (λ (s : Size). place_of s (cell_at i0 j)) size_is in
    let to_old : to ≡ place_of old.size (cell_at i1 j) = to_is ∙ ap (λ (s : Size). place_of s (cell_at i1 j)) size_is in
    ap (λ (s : Size). get_or new.cells (place_of s cell) 0) same_size
    ∙ ap (λ xs. get_or xs (place_of old.size cell) 0) new_cells
    ∙ outside (place_of old.size cell) (⊎_elim
    (λ (earlier : place_of old.size cell < j * old.size.w + i0). inl (omega arith))
    (λ (past : j * old.size.w + i1 + 1 ≤ place_of old.size cell). inr (omega arith))
    (out_of_span old.size j i0 i1 cell ordered last inside out))
    ∙ ap (λ xs. get_or xs (place_of old.size cell) 0) same_cells

-- a place of a row that gets the bits of another row's
pub row_gets : (old new : GridCells) (size : Size) (i j south to from : ℕ) (before after : List ℕ)
    → size ≡ old.size → new.size ≡ old.size → before ≡ old.cells → new.cells ≡ after
    → to ≡ place_of size (cell_at 0 j) → from ≡ place_of size (cell_at 0 south)
    → get_or after (to + i) 0 ≡ bit_or (get_or before (to + i) 0) (get_or before (from + i) 0)
    → number_at new (cell_at i j) ≡ bit_or (number_at old (cell_at i j)) (number_at old (cell_at i south))
row_gets old new size i j south to from before after size_is same_size same_cells new_cells to_is from_is gets =
    let to_old : to ≡ place_of old.size (cell_at 0 j) = to_is ∙ ap (λ (s : Size). place_of s (cell_at 0 j)) size_is in
    let from_old : from ≡ place_of old.size (cell_at 0 south) =
    from_is ∙ ap (λ (s : Size). place_of s (cell_at 0 south)) size_is in
    let here : to + i ≡ place_of old.size (cell_at i j) = omega (arith, to_old) in
    let there : from + i ≡ place_of old.size (cell_at i south) = omega (arith, from_old) in
    ap (λ (s : Size). get_or new.cells (place_of s (cell_at i j)) 0) same_size
    ∙ ap (λ xs. get_or xs (place_of old.size (cell_at i j)) 0) new_cells
    ∙ ap (λ p. get_or after p 0) (sym here) ∙ gets
    ∙ ap (λ xs. bit_or (get_or xs (to + i) 0) (get_or xs (from + i) 0)) same_cells
    ∙ ap (λ p. bit_or (get_or old.cells p 0) (get_or old.cells (from + i) 0)) here
    ∙ ap (λ p. bit_or (number_at old (cell_at i j)) (get_or old.cells p 0)) there

-- a row that stays out of another one
pub stays_out_of_row : (old new : GridCells) (size : Size) (j to : ℕ) (before after : List ℕ)
    → size ≡ old.size → new.size ≡ old.size → before ≡ old.cells → new.cells ≡ after
    → to ≡ place_of size (cell_at 0 j)
    → ((k : ℕ) → (k < to) ⊎ (to + size.w ≤ k) → get_or after k 0 ≡ get_or before k 0)
    → (cell : Cell) → IsInside old.size cell → cell.j ≢ j → number_at new cell ≡ number_at old cell
stays_out_of_row old new size j to before after size_is same_size same_cells new_cells to_is outside cell inside out =
    let column = inside.column in
    let wide : size.w ≡ old.size.w = ap (λ (s : Size). s.w) size_is in
    stays_out_of_span old new size j 0 (old.size.w - 1) to (place_of size (cell_at (old.size.w - 1) j)) before after
    (omega arith) (omega arith) size_is same_size same_cells new_cells to_is refl
    (λ k side. outside k (⊎_elim (λ (low : k < to). inl low)
    (λ (high : place_of size (cell_at (old.size.w - 1) j) + 1 ≤ k). inr (omega (arith, to_is))) side))
    cell inside (λ at. out at.row)

-- the rectangle's rows below row j have their new numbers, and all other cells their old ones
pub record IsWritten (numbers : Cell → ℕ) (rect : Rect) (j : ℕ) (old now : GridCells) : Type 0 where
  pub size : now.size ≡ old.size
  pub written : (cell : Cell) → IsInRect rect cell → cell.j < j → number_at now cell ≡ numbers cell
  pub others : (cell : Cell) → IsInside old.size cell → (IsInRect rect cell → j ≤ cell.j) → number_at now cell ≡ number_at old cell
