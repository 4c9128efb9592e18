use Rattle.std.proofs.Common.{◌≤◌, max, min, arith, leb-true, le-leb}
use Rattle.nav_types.specs.declared.cells.Cell.{Cell}
use Rattle.nav_types.specs.declared.cells.Rect.{Rect}
use Rattle.nav_types.specs.Cells.{cell_at, IsInRect}
use Rattle.nav_types.proofs.cells.Rect.meets.Goals as goal

-- two rectangles whose columns and rows meet have the first of both in common
common_cell : (a b : Rect) → max a.i0 b.i0 ≤ min a.i1 b.i1 → max a.j0 b.j0 ≤ min a.j1 b.j1
    → (cell : Cell) × (IsInRect a cell × IsInRect b cell)
common_cell a b columns rows = (
  cell_at (max a.i0 b.i0) (max a.j0 b.j0),
  (
    record { west = omega arith; east = omega arith; south = omega arith; north = omega arith },
    record { west = omega arith; east = omega arith; south = omega arith; north = omega arith },
  ),
)

pub returns-then-max-min : goal.returns-then-max-min
returns-then-max-min c = (
  λ rows.
      let meet = leb-true c.max-then-max-min.result c.min-then-max-min.result rows in
      common_cell c.args.self c.args.other (omega arith) (omega arith),
  λ found.
      let of_a = found.1.0 in
      let of_b = found.1.1 in
      le-leb c.max-then-max-min.result c.min-then-max-min.result (omega arith),
)
