-- Cells along a row or a column of a map.
use Rattle.std.specs.Prelude.{ℕ, Bool, ◌<◌, ◌≤◌, IsTrue, IsFalse, true, false, not}
use Rattle.nav_types.specs.declared.cells.Cell.{Cell}
use Rattle.nav_types.specs.declared.cells.Size.{Size}
use Rattle.nav_types.specs.declared.straights.Axis.{Axis}
use Rattle.nav_types.specs.declared.straights.Axis.TheVariants.{Row, Column}
use Rattle.nav_types.specs.Cells.{cell_at}

-- the place of the cell on its line: its column in a row, its row in a column
abbrev pub place_on : Axis → Cell → ℕ
place_on Row cell = cell.i
place_on Column cell = cell.j

-- the line of the cell: its row, or its column
abbrev pub line_on : Axis → Cell → ℕ
line_on Row cell = cell.j
line_on Column cell = cell.i

-- the cell at a place of a line
abbrev pub cell_on : Axis → ℕ → ℕ → Cell
cell_on Row line place = cell_at place line
cell_on Column line place = cell_at line place

-- how many cells a line has in a map of this size
abbrev pub side_along : Axis → Size → ℕ
side_along Row size = size.w
side_along Column size = size.h

-- the first place of the line, from the one place on, that is free; the end where none is
pub record IsFirstFree (free : ℕ → Bool) (from end place : ℕ) : Type 0 where
  pub reached : from ≤ place
  pub within : place ≤ end
  pub found : place < end → IsTrue (free place)
  pub none_before : (k : ℕ) → from ≤ k → k < place → IsFalse (free k)

-- whether what is looked for, a passable cell or an impassable one, is what is there
abbrev pub is_sought : Bool → Bool → Bool
is_sought true passes = passes
is_sought false passes = not passes

-- the first place of the line, from the one place on, that is not free; the end where all are
abbrev pub IsFirstBlocked : (ℕ → Bool) → ℕ → ℕ → ℕ → Type 0
IsFirstBlocked free from end place = IsFirstFree (λ k. not (free k)) from end place
