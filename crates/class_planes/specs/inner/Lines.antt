-- Lines of bits in bands of 32 lines.
use Rattle.std.specs.Prelude.{ℕ, Bool, ◌≡◌, ◌<◌, ◌+◌, ◌*◌, ◌/◌, ◌%◌, ◌==◌, ◌&&◌, nat_lt, map, take, drop, ◌++◌, [], List, length, slice_index, slice_range, slice_index_or}
use Rattle.std.specs.Int.{bit_at}
use Rattle.nav_types.specs.declared.cells.Cell.{Cell}
use Rattle.nav_types.specs.declared.cells.Rect.{Rect}
use Rattle.nav_types.specs.declared.cells.Size.{Size}
use Rattle.nav_types.specs.Cells.{cell_at}
use Rattle.nav_types.specs.Places.{cell_of}
use Rattle.std.specs.List.{range_with_len}
use Rattle.class_planes.specs.Planes.{PlaneCells, AreFreeBits, IsOutside}

-- how many words a line has, and the words of each band
pub record LineTable : Type 0 where
  pub words : ℕ
  pub bands : List (List ℕ)

-- the words of line k of a band
abbrev pub line_in : ℕ → List ℕ → ℕ → List ℕ
line_in words band k = slice_range band (k * words) (k * words + words)

-- the words of line n
abbrev pub line_at : LineTable → ℕ → List ℕ
line_at table n = line_in table.words (slice_index_or table.bands (n / 32) []) (n % 32)

-- the band has the lines from `first` on, the first `count` of them
pub record IsBand (free : ℕ → ℕ → Bool) (first words count : ℕ) (band : List ℕ) : Type 0 where
  pub long : length band ≡ count * words
  pub each : (k : ℕ) → k < count → AreFreeBits (free (first + k)) (line_in words band k)

-- the table has so many bands of lines, each line with so many words
pub record AreLines (free : ℕ → ℕ → Bool) (count words : ℕ) (table : LineTable) : Type 0 where
  pub wide : table.words ≡ words
  pub many : length table.bands ≡ count
  pub each : (b : ℕ) → b < count → IsBand free (32 * b) words 32 (slice_index_or table.bands b [])

-- the lines before some places changed: place i of line n is as it was, where the cell (i, n) is kept
pub record AreLinesBefore (free : ℕ → ℕ → Bool) (Kept : Cell → Type 0) (count words : ℕ)
    (table : LineTable) : Type 0 where
  pub earlier : ℕ → ℕ → Bool
  pub lines : AreLines earlier count words table
  pub same : (n i : ℕ) → Kept (cell_at i n) → earlier n i ≡ free n i

-- the words of a line, with others in place of some from `from` on
abbrev pub patched : List ℕ → ℕ → List ℕ → List ℕ
patched old from part = take from old ++ (part ++ drop (from + length part) old)

-- whether place i of line n is passable
abbrev pub free_at : LineTable → ℕ → ℕ → Bool
free_at table n i = bit_at (slice_index (line_at table n) (i / 64)) (i % 64) == 1

-- the rows of a map and its size
pub record RowTable : Type 0 where
  pub size : Size
  pub rows : LineTable

-- whether the cell lies in the map and its bit is set
abbrev pub free_cell : RowTable → Cell → Bool
free_cell table cell = nat_lt cell.i table.size.w && nat_lt cell.j table.size.h && free_at table.rows cell.j cell.i

-- the bits of the rows are those of the map's free cells
abbrev pub AreRows : RowTable → Type 0
AreRows table = AreLines (λ j i. free_cell table (cell_at i j)) (table.size.h / 32 + 1) (table.size.w / 64 + 1)
    table.rows

-- the bits of the columns are those of the map's free cells
abbrev pub AreColumns : RowTable → LineTable → Type 0
AreColumns table columns =
    AreLines (λ i j. free_cell table (cell_at i j)) (table.size.w / 32 + 1) (table.size.h / 64 + 1) columns

-- the columns of the map before some of its cells changed, all of them in these rectangles
pub record AreColumnsBefore (table : RowTable) (rects : List Rect) (columns : LineTable) : Type 0 where
  pub earlier : ℕ → ℕ → Bool
  pub lines : AreLines earlier (table.size.w / 32 + 1) (table.size.h / 64 + 1) columns
  pub same : (cell : Cell) → IsOutside rects cell → earlier cell.i cell.j ≡ free_cell table cell

-- the plane of a map that is given by its rows
abbrev pub plane_of : RowTable → PlaneCells
plane_of table = record {
  size = table.size;
  cells = map (λ place. free_at table.rows (cell_of table.size place).j (cell_of table.size place).i)
      (range_with_len 0 (table.size.w * table.size.h));
}
