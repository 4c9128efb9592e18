-- Cells of a map that are read before its planes are made anew.
use Rattle.std.specs.Prelude.{ℕ, Bool, All, ◌≡◌, ◌<◌, ◌≤◌, ◌+◌, ◌-◌, ◌*◌, ◌/◌, ◌%◌, List, length, slice_index}
use Rattle.std.specs.Int.{bit_at}
use Rattle.nav_types.specs.declared.cells.Cell.{Cell}
use Rattle.nav_types.specs.declared.cells.Rect.{Rect}
use Rattle.nav_types.specs.declared.cells.Size.{Size}
use Rattle.nav_types.specs.Cells.{IsInRect, cell_at}
use Rattle.nav_types.specs.Rows.{bit_of}
use Rattle.lane_rows.specs.Rows.{one_if}
use Rattle.class_planes.specs.inner.Lines.{RowTable, free_cell, line_in}

-- the numbers of the cells of a rectangle, row by row
pub record ReadCells : Type 0 where
  pub rect : Rect
  pub numbers : List ℕ

-- how many cells a row of the rectangle has
abbrev pub width_of : Rect → ℕ
width_of rect = rect.i1 - rect.i0 + 1

-- the numbers of row n
abbrev pub numbers_in : ReadCells → ℕ → List ℕ
numbers_in read n = line_in (width_of read.rect) read.numbers (n - read.rect.j0)

-- the rows of the rectangle are whole words of lines with so many words
pub record IsOfWords (words : ℕ) (rect : Rect) : Type 0 where
  pub first : 64 * (rect.i0 / 64) ≡ rect.i0
  pub last : 64 * (rect.i1 / 64) + 63 ≡ rect.i1
  pub columns : rect.i0 ≤ rect.i1
  pub within : rect.i1 / 64 < words
  pub rows : rect.j0 ≤ rect.j1

-- there is one number for each cell of the rectangle
abbrev pub AreWhole : ReadCells → Type 0
AreWhole read = length read.numbers ≡ (read.rect.j1 - read.rect.j0 + 1) * width_of read.rect

-- the numbers of the rectangle's row k, counted from its first one, are those of its cells
abbrev pub AreOfRow : ℕ → (ℕ → Cell → Bool) → Rect → ℕ → List ℕ → Type 0
AreOfRow classes passes rect k numbers = (class column : ℕ) → class < classes → class < 16 → column < width_of rect
    → bit_at (slice_index numbers (k * width_of rect + column)) class
    ≡ bit_of (passes class (cell_at (rect.i0 + column) (rect.j0 + k)))

-- the cells of a map of this width: bit k of a number is set exactly where its cell is impassable for class k
pub record AreRead (size : Size) (classes : ℕ) (passes : ℕ → Cell → Bool) (read : ReadCells) : Type 0 where
  pub words : IsOfWords (size.w / 64 + 1) read.rect
  pub whole : AreWhole read
  pub each : (class i n : ℕ) → class < classes → class < 16 → IsInRect read.rect (cell_at i n)
      → bit_at (slice_index (numbers_in read n) (i - read.rect.i0)) class ≡ bit_of (passes class (cell_at i n))

-- none of the rectangles holds the cell
abbrev pub IsUnread : List ReadCells → Cell → Type 0
IsUnread reads cell = All (λ read. IsInRect read.rect cell → ⊥) reads

-- bit i of line m of a band
abbrev pub band_bit : ℕ → List ℕ → ℕ → ℕ → ℕ
band_bit words band m i = bit_at (slice_index band (m * words + i / 64)) (i % 64)

-- bit j of column m of a band of columns is that of its cell
abbrev pub IsColumnBit : RowTable → ℕ → List ℕ → ℕ → ℕ → Type 0
IsColumnBit table band words m j =
    band_bit (table.size.h / 64 + 1) words m j ≡ one_if (free_cell table (cell_at (32 * band + m) j))
