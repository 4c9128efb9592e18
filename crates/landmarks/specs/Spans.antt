-- The bound on the cost of a walk to the nearest of several cells, by the least and the greatest of their numbers.
use Rattle.std.specs.Prelude.{ℕ, zero, suc, ◌≡◌, ◌-◌, ◌*◌, ◌≤◌, ◌<◌, max, min, slice_index}
use Rattle.nav_types.specs.declared.cells.Cell.{Cell}
use Rattle.landmarks.specs.declared.units.TheConstants.{MAX_TABLES, UNIT_COST}
use Rattle.landmarks.specs.declared.spans.NumberSpan.{NumberSpan}
use Rattle.landmarks.specs.Landmarks.{Tables, number_of}

-- in each table the cell's number lies between the two of the span
pub record IsSpanned (tables : Tables) (span : NumberSpan) (cell : Cell) : Type 0 where
  pub least : (table : ℕ) → table < MAX_TABLES → slice_index span.least table ≤ number_of tables cell table
  pub greatest : (table : ℕ) → table < MAX_TABLES → number_of tables cell table ≤ slice_index span.greatest table

-- in each table both numbers of the span are the cell's
pub record IsSpanOf (tables : Tables) (cell : Cell) (span : NumberSpan) : Type 0 where
  pub least : (table : ℕ) → table < MAX_TABLES → slice_index span.least table ≡ number_of tables cell table
  pub greatest : (table : ℕ) → table < MAX_TABLES → slice_index span.greatest table ≡ number_of tables cell table

-- the span has been widened by as much as a cell's numbers want
pub record IsWidened (tables : Tables) (cell : Cell) (old new : NumberSpan) : Type 0 where
  pub least : (table : ℕ) → table < MAX_TABLES
      → slice_index new.least table ≡ min (slice_index old.least table) (number_of tables cell table)
  pub greatest : (table : ℕ) → table < MAX_TABLES
      → slice_index new.greatest table ≡ max (slice_index old.greatest table) (number_of tables cell table)

-- how far a number lies below the one or above the other
abbrev pub outside : ℕ → ℕ → ℕ → ℕ
outside least greatest number = max (least - number) (number - greatest)

-- the greatest of the distances from a cell's number to the span's, in the first so many tables
abbrev pub greatest_outside : Tables → NumberSpan → Cell → ℕ → ℕ
greatest_outside tables span cell zero = 0
greatest_outside tables span cell (suc table) = max (greatest_outside tables span cell table)
    (outside (slice_index span.least table) (slice_index span.greatest table) (number_of tables cell table))

-- the cost below which no walk from the cell to one that is spanned lies where the tables are gentle
unfoldable pub span_bound : Tables → NumberSpan → Cell → ℕ
span_bound tables span cell = UNIT_COST * greatest_outside tables span cell MAX_TABLES
