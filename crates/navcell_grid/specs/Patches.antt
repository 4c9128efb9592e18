-- Patches: the numbers of a rectangle no larger than a chunk. Bit k of a number is set where the navcell is impassable
-- for the passability class k.
use Rattle.std.specs.Prelude.{ℕ, ◌≡◌, ◌≢◌, ◌*◌, List, length, not, count_by}
use Rattle.nav_types.specs.declared.cells.Cell.{Cell}
use Rattle.nav_types.specs.declared.cells.Rect.{Rect}
use Rattle.nav_types.specs.Cells.{IsInRect}
use Rattle.nav_types.specs.Numbering.{Numbering, IsPatch, columns, rows, number_of}
use Rattle.lane_rows.specs.Rows.{has_class}

-- a rectangle no larger than a chunk, with exactly one number for each of its cells
pub record IsWholePatch (patch : Numbering) : Type 0 where
  pub extent : IsPatch patch.rect
  pub whole : length patch.numbers ≡ columns patch.rect * rows patch.rect

-- bit k of the numbers of a and b differs in some cell of the rectangle
pub record DiffersIn (k : ℕ) (rect : Rect) (a b : Numbering) : Type 0 where
  pub cell : Cell
  pub inside : IsInRect rect cell
  pub apart : has_class k (number_of a cell) ≢ has_class k (number_of b cell)

-- how many of the numbers leave their cells free for class k
abbrev pub free_count : ℕ → List ℕ → ℕ
free_count k numbers = count_by (λ number. not (has_class k number)) numbers
