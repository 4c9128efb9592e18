-- Where the straight runs along the lines of a map have a stop for a side that opens, whatever the aim.
use Rattle.std.specs.Prelude.{ℕ, zero, suc, ⊤, All, ◌≡◌, ◌<◌, ◌≤◌, ◌+◌, ◌-◌, ◌*◌, ◌/◌, [], min, max, map, List, length, slice_index_or, slice_set}
use Rattle.nav_types.specs.declared.limits.TheConstants.{MAX_SIDE}
use Rattle.nav_types.specs.declared.cells.Rect.{Rect}
use Rattle.nav_types.specs.Cells.{cell_at}
use Rattle.class_planes.specs.Planes.{IsOutside}
use Rattle.nav_types.specs.declared.straights.Way.{Way}
use Rattle.nav_types.specs.declared.straights.Way.TheVariants.{Up, Down}
use Rattle.class_planes.specs.inner.Lines.{LineTable, line_at, line_in}
use Rattle.class_planes.specs.inner.Runs.{LaneWords, bit_in, opening}

-- 1 where a run has a stop for a side that goes on from one place of a line to the next, and `on` says so of the run from
-- the next one: that place is free, and a side opens there or the run from there has such a stop
abbrev pub stop_bit : LaneWords → ℕ → ℕ → ℕ → ℕ
stop_bit lanes here next on = min (bit_in lanes.mid next)
    (max (max (opening (bit_in lanes.left here) (bit_in lanes.left next))
    (opening (bit_in lanes.right here) (bit_in lanes.right next))) on)

-- the same of the run that way from place i, by the bit of the next place; no run goes down from the first place
abbrev pub stop_along : Way → LaneWords → List ℕ → ℕ → ℕ
stop_along Up lanes stops i = stop_bit lanes i (suc i) (bit_in stops (suc i))
stop_along Down lanes stops zero = 0
stop_along Down lanes stops (suc i) = stop_bit lanes (suc i) i (bit_in stops i)

-- the bit of place i tells whether the run that way from there has a stop for a side
abbrev pub IsStopBit : Way → LaneWords → List ℕ → ℕ → Type 0
IsStopBit way lanes stops i = bit_in stops i ≡ stop_along way lanes stops i

-- the line before line n of the first `count` lines: for the first one that after the last, in which nothing is free
abbrev pub line_before : ℕ → ℕ → ℕ
line_before count zero = count
line_before count (suc n) = n

-- line n with the line after it to the left and the line before it to the right
abbrev pub lanes_of : LineTable → ℕ → ℕ → LaneWords
lanes_of lines count n = record {
  mid = line_at lines n;
  left = line_at lines (n + 1);
  right = line_at lines (line_before count n);
}

-- the table has the first `count` lines of a map, and at least one after them
pub record AreMapLines (count : ℕ) (lines : LineTable) : Type 0 where
  pub many : length lines.bands ≡ count / 32 + 1
  pub long : (b : ℕ) → b < count / 32 + 1 → length (slice_index_or lines.bands b []) ≡ 32 * lines.words
  pub wide : 0 < lines.words
  pub few : lines.words ≤ 33
  pub some : 0 < count
  pub low : count ≤ MAX_SIDE

-- a rectangle with columns and rows exchanged
abbrev pub turned_rect : Rect → Rect
turned_rect rect = record { i0 = rect.j0; j0 = rect.i0; i1 = rect.j1; j1 = rect.i1 }

-- the rectangle of places and lines, with those beside it, lies in the first `count` lines of so many words
pub record IsRectOf (count words : ℕ) (rect : Rect) : Type 0 where
  pub last_word : (rect.i1 + 1) / 64 < words
  pub last_line : rect.j1 < count
  pub some : rect.j0 ≤ rect.j1

-- two tables have the first `count` lines of maps of one size
pub record AreAlike (count : ℕ) (was now : LineTable) : Type 0 where
  pub before : AreMapLines count was
  pub lines : AreMapLines count now
  pub words : was.words ≡ now.words

-- outside of the rectangles the lines are as before
abbrev pub AreSameOutside : ℕ → LineTable → LineTable → List Rect → Type 0
AreSameOutside count before lines rects = (n i : ℕ) → n ≤ count → IsOutside rects (cell_at i n)
    → bit_in (line_at before n) i ≡ bit_in (line_at lines n) i

-- the places of the rectangle in the lines from one up to and without another are as before
abbrev pub AreSameIn : LineTable → LineTable → Rect → ℕ → ℕ → Type 0
AreSameIn before lines rect from to = (n i : ℕ) → from ≤ n → n < to → rect.i0 ≤ i → i ≤ rect.i1
    → bit_in (line_at before n) i ≡ bit_in (line_at lines n) i

-- place i of line n lies in a word that the rectangle meets, or that meets a place beside it
pub record IsInTouchedWord (rect : Rect) (n i : ℕ) : Type 0 where
  pub south : rect.j0 ≤ n + 1
  pub north : n ≤ rect.j1 + 1
  pub west : (rect.i0 - 1) / 64 ≤ i / 64
  pub east : i / 64 ≤ (rect.i1 + 1) / 64

-- bit i of line m of a band is right, which has the stops along the 32 lines from `first` on
abbrev pub IsBandStop : Way → LineTable → ℕ → ℕ → List ℕ → ℕ → ℕ → Type 0
IsBandStop way lines count first band m i =
    IsStopBit way (lanes_of lines count (first + m)) (line_in lines.words band m) i

-- those along the first `count` lines are right at sure places
pub record AreBandStops (Sure : ℕ → ℕ → Type 0) (way : Way) (lines : LineTable) (count first : ℕ)
    (band : List ℕ) : Type 0 where
  pub long : length band ≡ 32 * lines.words
  pub each : (m i : ℕ) → m < 32 → first + m < count → i / 64 < lines.words → Sure (first + m) i
      → IsBandStop way lines count first band m i

-- the bits of so many bands of lines are right at sure places
pub record AreStopsWhere (Sure : ℕ → ℕ → Type 0) (way : Way) (lines : LineTable) (count bands : ℕ)
    (stops : LineTable) : Type 0 where
  pub wide : stops.words ≡ lines.words
  pub many : length stops.bands ≡ bands
  pub each : (b : ℕ) → b < bands
      → AreBandStops Sure way lines count (32 * b) (slice_index_or stops.bands b [])

-- the stops of the runs that way along the first `count` lines
abbrev pub AreStops : Way → ℕ → LineTable → LineTable → Type 0
AreStops way count lines stops = AreStopsWhere (λ n i. ⊤) way lines count (count / 32 + 1) stops

-- the place is near none of the rectangles
abbrev pub IsFarFrom : List Rect → ℕ → ℕ → Type 0
IsFarFrom rects n i = All (λ rect. IsInTouchedWord rect n i → ⊥) rects

-- the stops before some places changed, all of them in these rectangles
abbrev pub AreStopsBefore : Way → List Rect → ℕ → LineTable → LineTable → Type 0
AreStopsBefore way rects count lines stops =
    AreStopsWhere (IsFarFrom rects) way lines count (count / 32 + 1) stops

-- ---- the lines of a map and the stops along them in one table, whose bands have 96 lines: 32 of the map, the stops of
-- the runs upwards along these, and those of the runs downwards

-- the 32 lines of a band that come after so many times 32
abbrev pub part_in : ℕ → List ℕ → ℕ → List ℕ
part_in words band k = line_in (32 * words) band k

abbrev pub part_of : LineTable → ℕ → LineTable
part_of table k = record { words = table.words; bands = map (λ band. part_in table.words band k) table.bands }

-- the lines of the map
abbrev pub map_lines : LineTable → LineTable
map_lines table = part_of table 0

-- which lines of a band are the stops of the runs that way
abbrev pub part_along : Way → ℕ
part_along Up = 1
part_along Down = 2

-- the stops of the runs that way
abbrev pub stops_along : Way → LineTable → LineTable
stops_along way table = part_of table (part_along way)

-- the band has the stops of band b of a table
abbrev pub HasStopsOf : LineTable → ℕ → List ℕ → Type 0
HasStopsOf table b band = (way : Way) → part_in table.words band (part_along way)
    ≡ part_in table.words (slice_index_or table.bands b []) (part_along way)

-- the first so many bands of a table have the stops of those of another one
abbrev pub AreSameStops : ℕ → LineTable → LineTable → Type 0
AreSameStops bands before table = (b : ℕ) → b < bands → HasStopsOf before b (slice_index_or table.bands b [])

-- the table with these words of one band
abbrev pub band_put : LineTable → ℕ → List ℕ → LineTable
band_put table b band = record { words = table.words; bands = slice_set table.bands b band }

-- the lines of a map, and how many of them are the map's
pub record MapTable : Type 0 where
  pub count : ℕ
  pub lines : LineTable
