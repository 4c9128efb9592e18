-- Straight segments between the middles of two cells, and the cells that they touch.
use Rattle.std.specs.Prelude.{ℕ, ℤ, pos, Bool, ◌≡◌, ◌≤◌, ◌+◌, ◌-◌, ◌*◌, ◌-ℤ◌, ◌*ℤ◌, ◌≤ℤ◌, ◌⊎◌, IsTrue, unsigned_abs}
use Rattle.nav_types.specs.declared.cells.Cell.{Cell}

-- how far apart two columns or two rows lie
abbrev pub gap : ℕ → ℕ → ℕ
gap a b = (a - b) + (b - a)

-- The segment from the middle of one cell to the middle of another meets the closed square of the cell: the cell's column
-- and row lie between theirs, in navcells, and the segment's line runs through its square or touches its rim. So a segment
-- through a corner point touches all cells about it.
pub record Touches (from to cell : Cell) : Type 0 where
  pub columns : gap from.i cell.i + gap cell.i to.i ≡ gap from.i to.i
  pub rows : gap from.j cell.j + gap cell.j to.j ≡ gap from.j to.j
  pub near : 2 * gap (gap from.i to.i * gap from.j cell.j) (gap from.j to.j * gap from.i cell.i)
      ≤ gap from.i to.i + gap from.j to.j

-- each cell that the segment touches is passable
abbrev pub IsClear : (Cell → Bool) → Cell → Cell → Type 0
IsClear passes from to = (cell : Cell) → Touches from to cell → IsTrue (passes cell)

-- the way from one column or row to another, with its sign
abbrev pub offset : ℕ → ℕ → ℤ
offset from to = pos to -ℤ pos from

-- the offset lies between 0 and the whole one
abbrev pub IsPartWay : ℤ → ℤ → Type 0
IsPartWay whole part = ((pos 0 ≤ℤ part) × (part ≤ℤ whole)) ⊎ ((whole ≤ℤ part) × (part ≤ℤ pos 0))

-- the same by offsets from the first cell: 2 * |di * ej - dj * ei| is at most |di| + |dj|, where (di, dj) leads to the
-- other cell and (ei, ej) to a cell between them
pub record TouchesByOffsets (from to cell : Cell) : Type 0 where
  pub columns : IsPartWay (offset from.i to.i) (offset from.i cell.i)
  pub rows : IsPartWay (offset from.j to.j) (offset from.j cell.j)
  pub near : 2 * unsigned_abs ((offset from.i to.i *ℤ offset from.j cell.j) -ℤ (offset from.j to.j *ℤ offset from.i cell.i))
      ≤ unsigned_abs (offset from.i to.i) + unsigned_abs (offset from.j to.j)
