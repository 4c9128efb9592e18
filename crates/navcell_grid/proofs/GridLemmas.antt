-- The numbers of all cells are the whole grid.
use Rattle.std.proofs.Common.{◌≡◌, ℕ, ◌*◌, ◌<◌, List, length, get_or, sym, ap, ◌∙◌, arith}
use Rattle.std.proofs.lemmas.List.{ext_get_or}
use Rattle.nav_types.specs.declared.cells.Cell.{Cell}
use Rattle.nav_types.specs.declared.cells.Size.{Size}
use Rattle.nav_types.specs.Cells.{IsInside}
use Rattle.nav_types.specs.Places.{place_of, cell_of}
use Rattle.nav_types.proofs.CellPlaces.{cell_of-inside, place_of-cell_of}
use Rattle.navcell_grid.specs.Grids.{GridCells, IsWholeGrid, number_at}

same_cells : (size : Size) (xs ys : List ℕ) → length xs ≡ size.w * size.h → length ys ≡ size.w * size.h
    → ((cell : Cell) → IsInside size cell → get_or xs (place_of size cell) 0 ≡ get_or ys (place_of size cell) 0) → xs ≡ ys
same_cells size xs ys long_xs long_ys same =
    ext_get_or 0 xs ys (long_xs ∙ sym long_ys) (λ k below.
    let short : k < size.w * size.h = omega (arith, long_xs) in
    ap (λ p. get_or xs p 0) (sym (place_of-cell_of size k))
    ∙ same (cell_of size k) (cell_of-inside size k short)
    ∙ ap (λ p. get_or ys p 0) (place_of-cell_of size k))

pub same_grid : (a b : GridCells) → IsWholeGrid a → IsWholeGrid b → a.size ≡ b.size
    → ((cell : Cell) → IsInside a.size cell → number_at a cell ≡ number_at b cell) → a ≡ b
same_grid a b whole_a whole_b size same =
    let cells : a.cells ≡ b.cells =
    same_cells a.size a.cells b.cells whole_a (whole_b ∙ ap (λ (s : Size). s.w * s.h) (sym size))
    (λ cell inside. same cell inside ∙ ap (λ (s : Size). get_or b.cells (place_of s cell) 0) (sym size)) in
    let resize : Size → GridCells = λ s. record { size = s; cells = a.cells } in
    let refill : List ℕ → GridCells = λ xs. record { size = b.size; cells = xs } in
    ap resize size ∙ ap refill cells
