-- Tables of landmarks, and the bound on the cost of a walk that they give. Their numbers count twelfths of a straight step.
use Rattle.std.specs.Prelude.{ℕ, zero, suc, Bool, ◌+◌, ◌*◌, ◌≤◌, ◌<◌, List, max, slice_index, if◌then◌else◌}
use Rattle.std.specs.Int.{abs_diff}
use Rattle.nav_types.specs.declared.cells.Cell.{Cell}
use Rattle.nav_types.specs.declared.cells.Size.{Size}
use Rattle.nav_types.specs.declared.directions.Dir.{Dir}
use Rattle.nav_types.specs.Directions.{is_straight}
use Rattle.nav_types.specs.Walks.{Step}
use Rattle.landmarks.specs.declared.units.TheConstants.{MAX_TABLES, STRAIGHT_UNITS, DIAGONAL_UNITS, UNIT_COST}

-- The tables of a map of this size, of which so many are made: all numbers of a cell stand together, and so do the cells
-- of a row. A border of one cell lies round the map.
pub record Tables : Type 0 where
  pub size : Size
  pub made : ℕ
  pub numbers : List ℕ

-- the place of a cell among the map's cells and those of its border, row by row
abbrev pub spot_of : Size → Cell → ℕ
spot_of size cell = (cell.j + 1) * (size.w + 2) + (cell.i + 1)

-- the number of a cell in one of the tables
abbrev pub number_of : Tables → Cell → ℕ → ℕ
number_of tables cell table = slice_index tables.numbers (MAX_TABLES * spot_of tables.size cell + table)

-- the most by which the numbers of two cells may differ that a step in the direction joins
abbrev pub most_apart : Dir → ℕ
most_apart dir = if is_straight dir then STRAIGHT_UNITS else DIAGONAL_UNITS

-- The tables are gentle: along each legal step the numbers of a table differ by little. They have 16 bits.
pub record AreGentle (passes : Cell → Bool) (tables : Tables) : Type 0 where
  pub steps : (dir : Dir) (from to : Cell) (table : ℕ) → table < MAX_TABLES → Step passes dir from to
      → abs_diff (number_of tables from table) (number_of tables to table) ≤ most_apart dir
  pub few : (cell : Cell) (table : ℕ) → table < MAX_TABLES → number_of tables cell table < 65536

-- the greatest difference of the two cells' numbers in the first so many tables
abbrev pub greatest_apart : Tables → Cell → Cell → ℕ → ℕ
greatest_apart tables from to zero = 0
greatest_apart tables from to (suc table) =
    max (greatest_apart tables from to table) (abs_diff (number_of tables from table) (number_of tables to table))

-- the cost below which no walk between the two cells lies where the tables are gentle
unfoldable pub landmark_bound : Tables → Cell → Cell → ℕ
landmark_bound tables from to = UNIT_COST * greatest_apart tables from to MAX_TABLES
