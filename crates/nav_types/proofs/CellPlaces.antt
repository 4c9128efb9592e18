-- Cells and their places in a list of all cells of a map.
use Rattle.std.proofs.Common.{ℕ, ◌≡◌, ◌*◌, ◌<◌, ◌≤◌, inl, inr, ap, arith}
use Rattle.std.proofs.Math.Nat.{mul_comm}
use Rattle.std.proofs.lemmas.Bool.{cases_order}
use Rattle.std.proofs.lemmas.Nat.{mul-add-lt, div-mul-add, mod-mul-add, div-add-mod', same_from_place, div_below, mod_below}
use Rattle.nav_types.specs.declared.cells.Cell.{Cell}
use Rattle.nav_types.specs.declared.cells.Size.{Size}
use Rattle.nav_types.specs.Cells.{IsInside, IsNotAfter}
use Rattle.nav_types.specs.Places.{place_of, cell_of}
use Rattle.nav_types.proofs.CellOrder.{same_cell}

pub place_of-lt : (size : Size) (cell : Cell) → IsInside size cell → place_of size cell < size.w * size.h
place_of-lt size cell inside = mul-add-lt cell.j size.w cell.i size.h inside.row inside.column

pub place_of-inj : (size : Size) (a b : Cell) → IsInside size a → IsInside size b → place_of size a ≡ place_of size b → a ≡ b
place_of-inj size a b in_a in_b e =
    let parts = same_from_place a.j a.i b.j b.i size.w in_a.column in_b.column e in
    same_cell a b parts.1 parts.0

pub cell_of-inside : (size : Size) (place : ℕ) → place < size.w * size.h → IsInside size (cell_of size place)
cell_of-inside size place below =
    let wide = size.wide in
    let some : 0 < size.w = omega (arith, wide.some) in
    let turned : place < size.h * size.w = omega (arith, mul_comm size.w size.h) in
    record { column = mod_below place size.w some; row = div_below place size.w size.h some turned }

pub place_of-cell_of : (size : Size) (place : ℕ) → place_of size (cell_of size place) ≡ place
place_of-cell_of size place = div-add-mod' place size.w

pub cell_of-place_of : (size : Size) (cell : Cell) → IsInside size cell → cell_of size (place_of size cell) ≡ cell
cell_of-place_of size cell inside =
    same_cell (cell_of size (place_of size cell)) cell (mod-mul-add cell.j size.w cell.i inside.column) (div-mul-add cell.j size.w cell.i inside.column)

pub not_after : (size : Size) (a b : Cell) → IsInside size a → IsInside size b → place_of size a ≤ place_of size b → IsNotAfter a b
not_after size a b in_a in_b below =
    elim (cases_order a.j b.j) [
      | inl same ↦ inr (same, (let rows : a.j * size.w ≡ b.j * size.w = ap (λ (j : ℕ). j * size.w) same in omega arith))
      | inr order ↦ elim order [
        | inl before ↦ inl before
        | inr after ↦
            let far = mul-add-lt b.j size.w b.i a.j after in_b.column in
            absurd (omega (arith, far, mul_comm size.w a.j))
      ]
    ]
