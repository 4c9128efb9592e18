-- Passable cells of a chunk's rows that lie side by side.
use Rattle.std.specs.Prelude.{ℕ, zero, suc, Bool, false, ◌≡◌, ◌+◌, ◌-◌, ◌*◌, ◌/◌, ◌%◌, ◌<◌, ◌≤◌, ◌&&◌, if◌then◌else◌, List, Option, Some, None, IsTrue, length, replicate, slice_get, slice_index, nat_le, nat_lt}
use Rattle.std.specs.Int.{bit_at}
use Rattle.nav_types.specs.declared.limits.TheConstants.{CHUNK_SIDE, CHUNK_CELLS}
use Rattle.nav_types.specs.declared.cells.Cell.{Cell}
use Rattle.nav_types.specs.declared.cells.Chunk.{Chunk}
use Rattle.nav_types.specs.declared.cells.Rect.{Rect}
use Rattle.nav_types.specs.Numbering.{columns, rows}
use Rattle.chunk_regions.specs.declared.spans.Span.{Span}
use Rattle.chunk_regions.specs.declared.label_spans.Place.{Place}

-- the place of the first span of each row and the count of all spans, and the spans of all rows
pub record Runs : Type 0 where
  pub starts : List ℕ
  pub spans : List Span

-- the spans are in order: rows of spans that rise and do not touch
pub record AreSpans (runs : Runs) : Type 0 where
  pub rows : length runs.starts ≡ CHUNK_SIDE + 1
  pub start : slice_index runs.starts 0 ≡ 0
  pub rising : (r : ℕ) → r < CHUNK_SIDE → slice_index runs.starts r ≤ slice_index runs.starts (r + 1)
  pub all : slice_index runs.starts CHUNK_SIDE ≡ length runs.spans
  pub few : length runs.spans ≤ CHUNK_CELLS / 2
  pub each_few : (r : ℕ) → r < CHUNK_SIDE → slice_index runs.starts (r + 1) ≤ slice_index runs.starts r + CHUNK_SIDE / 2
  pub ordered : (k : ℕ) (span : Span) → slice_get runs.spans k ≡ Some span → (span.first ≤ span.last) × (span.last < CHUNK_SIDE)
  pub apart : (r k l : ℕ) (west east : Span) → r < CHUNK_SIDE → slice_index runs.starts r ≤ k → k < l
      → l < slice_index runs.starts (r + 1)
      → slice_get runs.spans k ≡ Some west → slice_get runs.spans l ≡ Some east → west.last + 1 < east.first

-- the span at place k is one of row r and holds column x
pub record Holds (runs : Runs) (r k x : ℕ) : Type 0 where
  pub span : Span
  pub found : slice_get runs.spans k ≡ Some span
  pub row : r < CHUNK_SIDE
  pub from : slice_index runs.starts r ≤ k
  pub to : k < slice_index runs.starts (r + 1)
  pub west : span.first ≤ x
  pub east : x ≤ span.last

-- the bit of a column in a chunk's row
abbrev pub bits_at : List ℕ → ℕ → ℕ → ℕ
bits_at bits row column = bit_at (slice_index bits row) column

-- the spans hold exactly the columns of a chunk's rows that are on: those whose number is 1
pub record AreRuns (on : ℕ → ℕ → ℕ) (runs : Runs) : Type 0 where
  pub are : AreSpans runs
  pub holds : (r x : ℕ) → r < CHUNK_SIDE → x < CHUNK_SIDE → on r x ≡ 1 → (k : ℕ) × Holds runs r k x
  pub set : (r k x : ℕ) → Holds runs r k x → on r x ≡ 1

-- the spans of the rows before a row, which hold exactly the columns that are on, and the places where each row's begin
pub record IsCutTo (on : ℕ → ℕ → ℕ) (starts : List ℕ) (spans : List Span) (row : ℕ) : Type 0 where
  pub count : length starts ≡ row + 1
  pub start : slice_index starts 0 ≡ 0
  pub rising : (r : ℕ) → r < row → slice_index starts r ≤ slice_index starts (r + 1)
  pub within : (r : ℕ) → r ≤ row → slice_index starts r ≤ length spans
  pub all : slice_index starts row ≡ length spans
  pub few : length spans ≤ CHUNK_SIDE / 2 * row
  pub each_few : (r : ℕ) → r < row → slice_index starts (r + 1) ≤ slice_index starts r + CHUNK_SIDE / 2
  pub ordered : (k : ℕ) (span : Span) → slice_get spans k ≡ Some span → (span.first ≤ span.last) × (span.last < CHUNK_SIDE)
  pub apart : (r k l : ℕ) (west east : Span) → r < row → slice_index starts r ≤ k → k < l → l < slice_index starts (r + 1)
      → slice_get spans k ≡ Some west → slice_get spans l ≡ Some east → west.last + 1 < east.first
  pub holds : (r x : ℕ) → r < row → x < CHUNK_SIDE → on r x ≡ 1
      → (k : ℕ) × (span : Span) × (slice_index starts r ≤ k) × (k < slice_index starts (r + 1)) × (slice_get spans k ≡ Some span) × (span.first ≤ x) × (x ≤ span.last)
  pub set : (r k x : ℕ) (span : Span) → r < row → slice_index starts r ≤ k → k < slice_index starts (r + 1) → slice_get spans k ≡ Some span
      → span.first ≤ x → x ≤ span.last → on r x ≡ 1

-- the spans from place `from` on hold exactly the columns below one that are on, and do not touch
pub record IsRowTo (on : ℕ → ℕ) (from : ℕ) (spans : List Span) (column : ℕ) : Type 0 where
  pub few : 2 * length spans ≤ 2 * from + column
  pub longer : from ≤ length spans
  pub ordered : (k : ℕ) (span : Span) → from ≤ k → slice_get spans k ≡ Some span
      → (span.first ≤ span.last) × (span.last < CHUNK_SIDE) × (span.last + 1 < column)
  pub apart : (k l : ℕ) (west east : Span) → from ≤ k → k < l → slice_get spans k ≡ Some west
      → slice_get spans l ≡ Some east → west.last + 1 < east.first
  pub holds : (x : ℕ) → x < column → on x ≡ 1
      → (k : ℕ) × (span : Span) × (from ≤ k) × (slice_get spans k ≡ Some span) × (span.first ≤ x) × (x ≤ span.last)
  pub set : (k x : ℕ) (span : Span) → from ≤ k → slice_get spans k ≡ Some span → span.first ≤ x → x ≤ span.last
      → on x ≡ 1

-- the place is that of a span
pub record IsPlace (runs : Runs) (place : Place) : Type 0 where
  pub row : place.row < CHUNK_SIDE
  pub from : slice_index runs.starts place.row ≤ place.at
  pub to : place.at < slice_index runs.starts (place.row + 1)
  pub within : place.at < length runs.spans

-- the cell of the chunk is one of the span at the place
pub record HasCell (chunk : Chunk) (runs : Runs) (place : Place) (cell : Cell) : Type 0 where
  pub is : IsPlace runs place
  pub span : Span
  pub found : slice_get runs.spans place.at ≡ Some span
  pub row : cell.j ≡ CHUNK_SIDE * chunk.cj + place.row
  pub west : CHUNK_SIDE * chunk.ci + span.first ≤ cell.i
  pub east : cell.i ≤ CHUNK_SIDE * chunk.ci + span.last

-- the spans hold exactly the passable cells of the chunk
pub record IsCut (passes : Cell → Bool) (chunk : Chunk) (runs : Runs) : Type 0 where
  pub are : AreSpans runs
  pub held : (cell : Cell) → IsTrue (passes cell) → (place : Place) × HasCell chunk runs place cell
  pub passing : (place : Place) (cell : Cell) → HasCell chunk runs place cell → IsTrue (passes cell)

-- whether there is a span that holds the column
abbrev pub span_has : Option Span → ℕ → Bool
span_has None column = false
span_has (Some span) column = nat_le span.first column && nat_le column span.last

-- the region of the first of so many spans from place k on that holds the column, 0 where none does
abbrev pub region_from : Runs → List ℕ → ℕ → ℕ → ℕ → ℕ
region_from runs regions column zero k = 0
region_from runs regions column (suc count) k =
    if span_has (slice_get runs.spans k) column then slice_index regions k else region_from runs regions column count
    (k + 1)

-- the region of the span that holds a column of a row, 0 where none does
abbrev pub region_at : Runs → List ℕ → ℕ → ℕ → ℕ
region_at runs regions row column =
    region_from runs regions column (slice_index runs.starts (row + 1) - slice_index runs.starts row)
    (slice_index runs.starts row)

-- the region of the cell at a place among the cells of the chunk's rectangle, which has so many columns
abbrev pub number_by : Runs → List ℕ → ℕ → ℕ → ℕ
number_by runs regions columns place = region_at runs regions (place / columns) (place % columns)

-- the region of a cell of the chunk
abbrev pub region_of : Chunk → Runs → List ℕ → Cell → ℕ
region_of chunk runs regions cell = region_at runs regions (cell.j - CHUNK_SIDE * chunk.cj) (cell.i - CHUNK_SIDE * chunk.ci)

-- 1 where a span of the row holds the column, else 0
abbrev pub held_at : Runs → ℕ → ℕ → ℕ
held_at runs row column = region_at runs (replicate (length runs.spans) 1) row column

-- the bits of the rows from one to before another; in the other rows 1 where a span of before holds the column
abbrev pub set_anew : Runs → ℕ → ℕ → List ℕ → ℕ → ℕ → ℕ
set_anew before from to bits row column =
    if nat_le from row && nat_lt row to then bits_at bits row column else held_at before row column

-- the bits of the rows from one to before another are set in the first `height` rows and `width` columns alone
abbrev pub AreBitsIn : ℕ → ℕ → ℕ → ℕ → List ℕ → Type 0
AreBitsIn width height from to bits =
    (row column : ℕ) → from ≤ row → row < to → bits_at bits row column ≡ 1 → (row < height) × (column < width)

-- the spans hold cells of the chunk's rectangle alone
pub record AreSpansIn (rect : Rect) (runs : Runs) : Type 0 where
  pub within : (r k x : ℕ) → Holds runs r k x → (r < rows rect) × (x < columns rect)
