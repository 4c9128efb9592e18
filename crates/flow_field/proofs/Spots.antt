-- Cells and their places in a table with a border of one cell.
use Rattle.std.proofs.Common.{ℕ, ◌≡◌, ◌+◌, ◌*◌, ◌<◌, ◌≤◌, sym, ap, ◌∙◌, subst, arith}
use Rattle.std.proofs.Math.Nat.{add-mul, mul_comm}
use Rattle.std.proofs.lemmas.Nat.{mul-le, mul-add-lt, div-mul-add, mod-mul-add, same_from_place}
use Rattle.nav_types.specs.declared.cells.Cell.{Cell}
use Rattle.nav_types.specs.declared.cells.Size.{Size}
use Rattle.nav_types.specs.declared.directions.Dir.{Dir}
use Rattle.nav_types.specs.declared.directions.Dir.TheVariants.{N, E, S, W, NE, SE, SW, NW}
use Rattle.nav_types.specs.Cells.{IsInside}
use Rattle.nav_types.specs.Directions.{north, east, south, west, Leads}
use Rattle.nav_types.proofs.CellOrder.{same_cell}
use Rattle.flow_field.specs.inner.Marks.{spot_of, cell_at_spot, IsBesideSpot, IsCellSpot}

-- a place more along a row
pub row_more : (a w : ℕ) → (a + 1) * w ≡ a * w + w
row_more a w = omega (arith, add-mul a 1 w)

-- the table's places, by its last row
pub rows_in_all : (size : Size) → (size.w + 2) * (size.h + 2) ≡ (size.h + 1) * (size.w + 2) + (size.w + 2)
rows_in_all size = omega (arith, mul_comm (size.w + 2) (size.h + 2), row_more (size.h + 1) (size.w + 2))

pub few_spots : (size : Size) → (size.w + 2) * (size.h + 2) ≤ 4202500
few_spots size =
    let wide = size.wide in let high = size.high in
    mul-le (size.w + 2) (size.h + 2) 2050 2050 (omega (arith, wide.few)) (omega (arith, high.few))

pub spot_of-lt : (size : Size) (cell : Cell) → IsInside size cell → spot_of size cell < (size.w + 2) * (size.h + 2)
spot_of-lt size cell inside = mul-add-lt (cell.j + 1) (size.w + 2) (cell.i + 1) (size.h + 2) (omega (arith, inside.row)) (omega (arith, inside.column))

pub spot_of-low : (size : Size) (cell : Cell) → size.w + 3 ≤ spot_of size cell
spot_of-low size cell = omega (arith, row_more cell.j (size.w + 2))

pub spot_of-high : (size : Size) (cell : Cell) → IsInside size cell → spot_of size cell + size.w + 3 < (size.w + 2) * (size.h + 2)
spot_of-high size cell inside =
    let far = mul-add-lt (cell.j + 1 + 1) (size.w + 2) (cell.i + 2) (size.h + 2) (omega (arith, inside.row)) (omega (arith, inside.column)) in
    omega (arith, far, row_more (cell.j + 1) (size.w + 2))

pub spot_of-inj : (size : Size) (a b : Cell) → IsInside size a → IsInside size b → spot_of size a ≡ spot_of size b → a ≡ b
spot_of-inj size a b in_a in_b same =
    let parts = same_from_place (a.j + 1) (a.i + 1) (b.j + 1) (b.i + 1) (size.w + 2) (omega (arith, in_a.column)) (omega (arith, in_b.column)) same in
    same_cell a b (omega (arith, parts.1)) (omega (arith, parts.0))

pub cell_at_spot-spot_of : (size : Size) (cell : Cell) → IsInside size cell → cell_at_spot size (spot_of size cell) ≡ cell
cell_at_spot-spot_of size cell inside =
    let low : cell.i + 1 < size.w + 2 = omega (arith, inside.column) in
    same_cell (cell_at_spot size (spot_of size cell)) cell
    (omega (arith, mod-mul-add (cell.j + 1) (size.w + 2) (cell.i + 1) low))
    (omega (arith, div-mul-add (cell.j + 1) (size.w + 2) (cell.i + 1) low))

pub IsCellSpot-of : (size : Size) (cell : Cell) (spot : ℕ) → IsInside size cell → spot ≡ spot_of size cell → IsCellSpot size spot
IsCellSpot-of size cell spot inside is =
    let back : cell_at_spot size spot ≡ cell = ap (λ (k : ℕ). cell_at_spot size k) is ∙ cell_at_spot-spot_of size cell inside in
    record {
      inside = subst (λ (c : Cell). IsInside size c) (sym back) inside;
      same = is ∙ ap (λ (c : Cell). spot_of size c) (sym back);
    }

-- a step goes at most one column east or west
one_east : (dir : Dir) → east dir ≤ 1
one_east N = omega arith
one_east E = omega arith
one_east S = omega arith
one_east W = omega arith
one_east NE = omega arith
one_east SE = omega arith
one_east SW = omega arith
one_east NW = omega arith

one_west : (dir : Dir) → west dir ≤ 1
one_west N = omega arith
one_west E = omega arith
one_west S = omega arith
one_west W = omega arith
one_west NE = omega arith
one_west SE = omega arith
one_west SW = omega arith
one_west NW = omega arith

-- the place beside a cell's place, where a cell has it, is that of the cell that the step leads to
pub leads_beside : (size : Size) (dir : Dir) (here next : Cell) (from to : ℕ) → IsInside size here → IsInside size next
    → from ≡ spot_of size here → to ≡ spot_of size next → IsBesideSpot (size.w + 2) dir from to → Leads dir here next
leads_beside size dir here next from to in_here in_next is_here is_next beside =
    let w = size.w + 2 in
    let parts = same_from_place (here.j + 1 + north dir) (here.i + 1 + east dir) (next.j + 1 + south dir) (next.i + 1 + west dir) w
    (omega (arith, in_here.column, one_east dir)) (omega (arith, in_next.column, one_west dir))
    (omega (arith, beside, is_here, is_next, add-mul (here.j + 1) (north dir) w, add-mul (next.j + 1) (south dir) w)) in
    record { columns = omega (arith, parts.1); rows = omega (arith, parts.0) }

pub beside_leads : (size : Size) (dir : Dir) (here next : Cell) → Leads dir here next → IsBesideSpot (size.w + 2) dir (spot_of size here) (spot_of size next)
beside_leads size dir here next leads =
    let w = size.w + 2 in
    let columns = leads.columns in
    let rows : here.j + 1 + north dir ≡ next.j + 1 + south dir = omega (arith, leads.rows) in
    let same : (here.j + 1 + north dir) * w ≡ (next.j + 1 + south dir) * w = ap (λ (k : ℕ). k * w) rows in
    omega (arith, same, add-mul (here.j + 1) (north dir) w, add-mul (next.j + 1) (south dir) w)

-- a step leads to one place
pub beside_same : (w : ℕ) (dir : Dir) (from a b : ℕ) → IsBesideSpot w dir from a → IsBesideSpot w dir from b → a ≡ b
beside_same w dir from a b p q = omega (arith, p, q)
