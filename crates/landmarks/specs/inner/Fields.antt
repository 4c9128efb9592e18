-- The marks of a field: one for each cell of a map and of its border, row by row. A mark is 0 where no cell is passable,
-- and else one more than the number that the cell gets in a table.
use Rattle.std.specs.Prelude.{ℕ, Bool, ◌≡◌, ◌+◌, ◌-◌, ◌*◌, ◌^◌, ◌≤◌, ◌<◌, ◌⊎◌, List, length, slice_index, IsTrue}
use Rattle.std.specs.Int.{abs_diff}
use Rattle.nav_types.specs.declared.cells.Cell.{Cell}
use Rattle.nav_types.specs.declared.cells.Size.{Size}
use Rattle.landmarks.specs.declared.units.TheConstants.{MAX_TABLES, STRAIGHT_UNITS, DIAGONAL_UNITS}
use Rattle.landmarks.specs.Landmarks.{Tables, spot_of}

-- how many places the map and its border have
abbrev pub spots : Size → ℕ
spots size = (size.w + 2) * (size.h + 2)

-- the tables have a number of 16 bits for each place and table, and no more are made than there is room for
pub record AreWhole (tables : Tables) : Type 0 where
  pub long : length tables.numbers ≡ MAX_TABLES * spots tables.size
  pub most : tables.made ≤ MAX_TABLES

-- the marks are those of a map of this size, none above 65535, and each passable cell before that column of that row is
-- marked, as those of the rows before are
pub record AreMarks (passes : Cell → Bool) (size : Size) (i j : ℕ) (marks : List ℕ) : Type 0 where
  pub long : length marks ≡ spots size
  pub most : (spot : ℕ) → slice_index marks spot ≤ 65535
  pub marked : (cell : Cell) → IsTrue (passes cell) → ((cell.j < j) ⊎ ((cell.j ≡ j) × (cell.i < i)))
      → 0 < slice_index marks (spot_of size cell)

-- marks changed only where there were some, and stay marks
pub record Spreads (old new : List ℕ) : Type 0 where
  pub long : length new ≡ length old
  pub most : ((spot : ℕ) → slice_index old spot ≤ 65535) → (spot : ℕ) → slice_index new spot ≤ 65535
  pub marked : (spot : ℕ) → 0 < slice_index old spot → 0 < slice_index new spot

-- the marks are few, and none is above 65535
pub record HasRoom (marks : List ℕ) : Type 0 where
  pub few : length marks < 2 ^ 32
  pub most : (spot : ℕ) → slice_index marks spot ≤ 65535

-- the place has one on each side
pub record IsInner (width at : ℕ) (marks : List ℕ) : Type 0 where
  pub below : width + 1 ≤ at
  pub above : at + width + 1 < length marks

-- two marks, where both are some, differ by no more than that
abbrev pub AreNear : ℕ → ℕ → ℕ → Type 0
AreNear most a b = 0 < a → 0 < b → abs_diff a b ≤ most

-- four marks of cells that share a corner are as near as the steps between them want
pub record IsSquareGentle (south_west south_east north_west north_east : ℕ) : Type 0 where
  pub row : AreNear STRAIGHT_UNITS south_west south_east
  pub column : AreNear STRAIGHT_UNITS south_west north_west
  pub rising : 0 < south_east → 0 < north_west → AreNear DIAGONAL_UNITS south_west north_east
  pub falling : 0 < south_west → 0 < north_east → AreNear DIAGONAL_UNITS south_east north_west

-- each square of two by two places before a place is gentle
abbrev pub AreGentleBefore : ℕ → ℕ → List ℕ → Type 0
AreGentleBefore width end marks = (at : ℕ) → at < end → IsSquareGentle
    (slice_index marks at) (slice_index marks (at + 1))
    (slice_index marks (at + width)) (slice_index marks (at + width + 1))

-- all squares of the marks are gentle
abbrev pub AreAllGentle : ℕ → List ℕ → Type 0
AreAllGentle width marks = (end : ℕ) → end + width + 1 ≤ length marks → AreGentleBefore width end marks

-- one table has the numbers of the marks up to a place, and the other tables stay
pub record IsWritten (table end : ℕ) (marks old new : List ℕ) : Type 0 where
  pub long : length new ≡ length old
  pub written : (at : ℕ) → at < end → slice_index new (MAX_TABLES * at + table) ≡ slice_index marks at - 1
  pub others : (at other : ℕ) → other < MAX_TABLES → (other < table) ⊎ (table < other)
      → slice_index new (MAX_TABLES * at + other) ≡ slice_index old (MAX_TABLES * at + other)
