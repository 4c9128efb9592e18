-- The size of a map, from the rectangle of all its cells.
use Rattle.std.proofs.Common.{◌≡◌, ◌-◌, ap, arith}
use Rattle.nav_types.specs.declared.cells.Cell.{Cell}
use Rattle.nav_types.specs.declared.cells.Rect.{Rect}
use Rattle.nav_types.specs.declared.cells.Size.{Size}
use Rattle.nav_types.specs.Cells.{IsInside, IsInRect}
use Rattle.nav_types.proofs.Sizes.{same_size}
use Rattle.nav_types.specs.Rects.{map_rect}

pub in_all : (size : Size) (cell : Cell) → IsInside size cell → IsInRect (map_rect size) cell
in_all size cell inside =
    let column = inside.column in let row = inside.row in
    record { west = omega arith; east = omega arith; south = omega arith; north = omega arith }

-- two maps of the same cells are of one size
pub size_from_cells : (a b : Size) → map_rect a ≡ map_rect b → a ≡ b
size_from_cells a b same =
    let east : a.w - 1 ≡ b.w - 1 = ap (λ (r : Rect). r.i1) same in
    let north : a.h - 1 ≡ b.h - 1 = ap (λ (r : Rect). r.j1) same in
    let a_wide = a.wide.some in let a_high = a.high.some in let b_wide = b.wide.some in let b_high = b.high.some in
    same_size a b (omega arith) (omega arith)
