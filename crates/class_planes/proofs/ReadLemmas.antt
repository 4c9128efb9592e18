-- Words that are read from a map and written into a band.
use Rattle.std.proofs.Common.{◌≡◌, ◌≢◌, ℕ, ◌+◌, ◌-◌, ◌*◌, ◌/◌, ◌%◌, ◌<◌, ◌≤◌, Bool, false, List, ◌++◌, take, drop, length, get_or, sym, ap, ◌∙◌, subst, ⊎_elim, max, min, arith}
use Rattle.std.specs.Int.{bit_at}
use Rattle.std.specs.Prelude.{slice_range}
use Rattle.std.proofs.lemmas.Bool.{cases_lt, cases_eq}
use Rattle.std.proofs.lemmas.Nat.{mul-le}
use Rattle.std.proofs.lemmas.Nat.Bits.{bit_at-zero}
use Rattle.std.proofs.lemmas.List.{get_or_past, get_or-take, get_or-drop, get_or-append_right, get_or_append_left, length-take, length-take-le}
use Rattle.nav_types.specs.declared.cells.Rect.{Rect}
use Rattle.nav_types.specs.declared.cells.Size.{Size}
use Rattle.nav_types.specs.declared.cells.Cell.{Cell}
use Rattle.nav_types.specs.Cells.{IsInRect, cell_at}
use Rattle.nav_types.specs.Rows.{bit_of}
use Rattle.lane_rows.specs.Rows.{one_if}
use Rattle.class_planes.specs.inner.Lines.{IsBand, line_in}
use Rattle.class_planes.specs.inner.Reading.{ReadCells, IsOfWords, AreOfRow, AreRead, AreWhole, band_bit, numbers_in, width_of}
use Rattle.class_planes.proofs.BitLemmas.{other_bit}
use Rattle.class_planes.proofs.LineLemmas.{part_long}
use Rattle.class_planes.proofs.UpdateLemmas.{in_rect_or_not}

-- a place of a part of a list
pub part_place : (xs : List ℕ) (from to w : ℕ) → from + w < to
    → get_or (slice_range xs from to) w 0 ≡ get_or xs (from + w) 0
part_place xs from to w within =
    get_or-take (to - from) (drop from xs) w 0 (omega arith) ∙ get_or-drop from xs w 0

-- a word of a line is one of its band
pub line_word : (words m w : ℕ) (band : List ℕ) → w < words
    → get_or (line_in words band m) w 0 ≡ get_or band (m * words + w) 0
line_word words m w band below = part_place band (m * words) (m * words + words) w (omega arith)

-- a band whose bits are right
pub band_right : (free : ℕ → ℕ → Bool) (first words : ℕ) (band : List ℕ) → length band ≡ 32 * words
    → ((n i : ℕ) → words ≤ i / 64 → free n i ≡ false)
    → ((m i : ℕ) → m < 32 → i / 64 < words → band_bit words band m i ≡ one_if (free (first + m) i))
    → IsBand free first words 32 band
band_right free first words band long past bits = record {
  long = long;
  each = λ m below i. ⊎_elim
      (λ (within : i / 64 < words).
      ap (λ word. bit_at word (i % 64)) (line_word words m (i / 64) band within) ∙ bits m i below within)
      (λ (after : words ≤ i / 64).
      ap (λ word. bit_at word (i % 64)) (get_or_past (line_in words band m) (i / 64) 0
      (omega (arith, length-take (m * words + words - m * words) (drop (m * words) band), after)))
      ∙ bit_at-zero (i % 64) ∙ sym (ap one_if (past (first + m) i after)))
      (cases_lt (i / 64) words);
}

-- a bit of a band
pub bit_of_band : (free : ℕ → ℕ → Bool) (first words m i : ℕ) (band : List ℕ) → IsBand free first words 32 band
    → m < 32 → i / 64 < words → band_bit words band m i ≡ one_if (free (first + m) i)
bit_of_band free first words m i band is below within =
    ap (λ word. bit_at word (i % 64)) (sym (line_word words m (i / 64) band within)) ∙ is.each m below i

-- the bits of a row are written into line k of a band
pub here_written : (old new numbers : List ℕ) (words start class k m i : ℕ) (rect : Rect) → IsOfWords words rect
    → length numbers ≡ width_of rect → start ≡ k * words + rect.i0 / 64
    → ((w b : ℕ) → w < length numbers / 64 → b < 64
    → bit_at (get_or new (start + w) 0) b ≡ 1 - bit_at (get_or numbers (64 * w + b) 0) class)
    → m ≡ k → rect.i0 ≤ i → i ≤ rect.i1
    → band_bit words new m i ≡ 1 - bit_at (get_or numbers (i - rect.i0) 0) class
here_written old new numbers words start class k m i rect is long at set same west east =
    let first : 64 * (rect.i0 / 64) ≡ rect.i0 = is.first in
    let last : 64 * (rect.i1 / 64) + 63 ≡ rect.i1 = is.last in
    let wide : length numbers ≡ rect.i1 - rect.i0 + 1 = long in
    let w : ℕ = i / 64 - rect.i0 / 64 in
    let there : k * words + i / 64 ≡ start + w = omega (arith, west, at) in
    let place : 64 * w + i % 64 ≡ i - rect.i0 = omega (arith, first, west) in
    ap (λ q. bit_at (get_or new (q * words + i / 64) 0) (i % 64)) same
    ∙ ap (λ p. bit_at (get_or new p 0) (i % 64)) there
    ∙ set w (i % 64) (omega (arith, first, last, west, east, wide)) (omega arith)
    ∙ ap (λ p. 1 - bit_at (get_or numbers p 0) class) place

-- and the other bits stay
pub elsewhere_kept : (old new numbers : List ℕ) (words start k m i : ℕ) (rect : Rect) → IsOfWords words rect
    → length numbers ≡ width_of rect → start ≡ k * words + rect.i0 / 64
    → ((w : ℕ) → (start ≤ w → w < start + length numbers / 64 → ⊥) → get_or new w 0 ≡ get_or old w 0)
    → i / 64 < words → (m ≡ k → rect.i0 ≤ i → i ≤ rect.i1 → ⊥)
    → band_bit words new m i ≡ band_bit words old m i
elsewhere_kept old new numbers words start k m i rect is long at others within out =
    let first : 64 * (rect.i0 / 64) ≡ rect.i0 = is.first in
    let last : 64 * (rect.i1 / 64) + 63 ≡ rect.i1 = is.last in
    let columns : rect.i0 ≤ rect.i1 = is.columns in
    let fits : rect.i1 / 64 < words = is.within in
    let wide : length numbers ≡ rect.i1 - rect.i0 + 1 = long in
    let count : length numbers / 64 ≡ rect.i1 / 64 + 1 - rect.i0 / 64 = omega (arith, wide, first, last, columns) in
    ap (λ word. bit_at word (i % 64)) (others (m * words + i / 64) (λ low high. ⊎_elim
    (λ (before : m < k).
    let more : (m + 1) * words ≤ k * words = mul-le (m + 1) words k words (omega arith) (omega arith) in
    omega (arith, more, low, at, within))
    (λ (not_before : k ≤ m). ⊎_elim
    (λ (after : k < m).
    let more : (k + 1) * words ≤ m * words = mul-le (k + 1) words m words (omega arith) (omega arith) in
    omega (arith, more, high, at, count, fits, columns))
    (λ (not_after : m ≤ k).
    let same : m ≡ k = omega arith in
    let line : m * words ≡ k * words = ap (λ q. q * words) same in
    out same (omega (arith, line, low, at, first)) (omega (arith, line, high, at, count, last, columns)))
    (cases_lt k m))
    (cases_lt m k)))

-- ---- a rectangle that is written

-- row n is one of the rectangle's, and of the 32 rows from `first` on
pub record IsMet (rect : Rect) (first n : ℕ) : Type 0 where
  pub south : rect.j0 ≤ n
  pub north : n ≤ rect.j1
  pub low : first ≤ n
  pub small : n - first < 32

pub row_met : (rect same : Rect) (first from to n : ℕ) → same ≡ rect → from ≡ max same.j0 first
    → to ≡ min same.j1 (first + 31) → from ≤ n → n < to + 1 → IsMet rect first n
row_met rect same first from to n is is_from is_to least most =
    let begins : from ≡ max rect.j0 first = is_from ∙ ap (λ (r : Rect). max r.j0 first) is in
    let ends : to ≡ min rect.j1 (first + 31) = is_to ∙ ap (λ (r : Rect). min r.j1 (first + 31)) is in
    record {
      south = omega (arith, begins, least);
      north = omega (arith, ends, most);
      low = omega (arith, begins, least);
      small = omega (arith, ends, most);
    }

-- the bits of the rectangle's rows before row n
abbrev pub AreSet : ReadCells → ℕ → ℕ → ℕ → ℕ → List ℕ → Type 0
AreSet read words class first n band = (m i : ℕ) → m < 32 → IsInRect read.rect (cell_at i (first + m)) → first + m < n
    → band_bit words band m i ≡ 1 - bit_at (get_or (numbers_in read (first + m)) (i - read.rect.i0) 0) class

abbrev pub AreKept : ReadCells → ℕ → ℕ → ℕ → List ℕ → List ℕ → Type 0
AreKept read words first n old band = (m i : ℕ) → m < 32 → i / 64 < words
    → (IsInRect read.rect (cell_at i (first + m)) → first + m < n → ⊥) → band_bit words band m i ≡ band_bit words old m i

pub row_set : (read : ReadCells) (old new numbers : List ℕ) (words start class first n : ℕ) → IsOfWords words read.rect
    → IsMet read.rect first n → numbers ≡ numbers_in read n → length numbers ≡ width_of read.rect
    → start ≡ (n - first) * words + read.rect.i0 / 64
    → ((w b : ℕ) → w < length numbers / 64 → b < 64
    → bit_at (get_or new (start + w) 0) b ≡ 1 - bit_at (get_or numbers (64 * w + b) 0) class)
    → ((w : ℕ) → (start ≤ w → w < start + length numbers / 64 → ⊥) → get_or new w 0 ≡ get_or old w 0)
    → AreSet read words class first n old → AreSet read words class first (n + 1) new
row_set read old new numbers words start class first n is met row long at set others before m i small inside below =
    let low : first ≤ n = met.low in
    let west : read.rect.i0 ≤ i = inside.west in
    let east : i ≤ read.rect.i1 = inside.east in
    let fits : read.rect.i1 / 64 < words = is.within in
    ⊎_elim
    (λ (same : first + m ≡ n).
    here_written old new numbers words start class (n - first) m i read.rect is long at set (omega (arith, same)) west east
    ∙ ap (λ (xs : List ℕ). 1 - bit_at (get_or xs (i - read.rect.i0) 0) class) row
    ∙ ap (λ p. 1 - bit_at (get_or (numbers_in read p) (i - read.rect.i0) 0) class) (sym same))
    (λ (other : first + m ≢ n).
    elsewhere_kept old new numbers words start (n - first) m i read.rect is long at others (omega (arith, east, fits))
    (λ line a b. other (omega (arith, line, low)))
    ∙ before m i small inside (omega (arith, below, other)))
    (cases_eq (first + m) n)

pub row_kept : (read : ReadCells) (whole old new numbers : List ℕ) (words start first n : ℕ) → IsOfWords words read.rect
    → IsMet read.rect first n → length numbers ≡ width_of read.rect → start ≡ (n - first) * words + read.rect.i0 / 64
    → ((w : ℕ) → (start ≤ w → w < start + length numbers / 64 → ⊥) → get_or new w 0 ≡ get_or old w 0)
    → AreKept read words first n whole old → AreKept read words first (n + 1) whole new
row_kept read whole old new numbers words start first n is met long at others before m i small within out =
    let low : first ≤ n = met.low in
    let south : read.rect.j0 ≤ n = met.south in
    let north : n ≤ read.rect.j1 = met.north in
    elsewhere_kept old new numbers words start (n - first) m i read.rect is long at others within
    (λ line west east.
    let row : first + m ≡ n = omega (arith, line, low) in
    let above : read.rect.j0 ≤ first + m = omega (arith, row, south) in
    let below : first + m ≤ read.rect.j1 = omega (arith, row, north) in
    out (record { west = west; east = east; south = above; north = below }) (omega (arith, row)))
    ∙ before m i small within (λ inside below. out inside (omega (arith, below)))

-- ---- all rectangles

-- the bits of a band that are right where none of the rectangles from place `from` on holds the cell
abbrev pub AreRightBut : (Cell → Bool) → ℕ → ℕ → List ReadCells → ℕ → List ℕ → Type 0
AreRightBut free first words reads from band = (m i : ℕ) → m < 32 → i / 64 < words
    → ((k : ℕ) (d : ReadCells) → from ≤ k → k < length reads
    → IsInRect (get_or reads k d).rect (cell_at i (first + m)) → ⊥)
    → band_bit words band m i ≡ one_if (free (cell_at i (first + m)))

-- one rectangle more is written
pub right_more : (size : Size) (classes : ℕ) (passes : ℕ → Cell → Bool) (class number first words wide : ℕ)
    (reads : List ReadCells) (from : ℕ) (read : ReadCells) (old new : List ℕ)
    → class < classes → class < 16 → number ≡ class → wide ≡ words → ((d : ReadCells) → get_or reads from d ≡ read)
    → AreRead size classes passes read → AreRightBut (passes class) first words reads from old
    → ((m i : ℕ) → m < 32 → IsInRect read.rect (cell_at i (first + m))
    → band_bit wide new m i ≡ 1 - bit_at (get_or (numbers_in read (first + m)) (i - read.rect.i0) 0) number)
    → ((m i : ℕ) → m < 32 → i / 64 < wide → (IsInRect read.rect (cell_at i (first + m)) → ⊥)
    → band_bit wide new m i ≡ band_bit wide old m i)
    → AreRightBut (passes class) first words reads (from + 1) new
right_more size classes passes class number first words wide reads from read old new known few same_class same_width is are
    right set others m i small within out =
    ap (λ q. band_bit q new m i) (sym same_width)
    ∙ in_rect_or_not read.rect (cell_at i (first + m))
    (λ here.
    set m i small here
    ∙ ap (λ k. 1 - bit_at (get_or (numbers_in read (first + m)) (i - read.rect.i0) 0) k) same_class
    ∙ ap (λ b. 1 - b) (are.each class i (first + m) known few here)
    ∙ other_bit (passes class (cell_at i (first + m))))
    (λ not_here.
    others m i small (omega (arith, within, same_width)) not_here
    ∙ ap (λ q. band_bit q old m i) same_width
    ∙ right m i small within (λ k d least below inside. ⊎_elim
    (λ (same : k ≡ from). not_here (subst (λ (r : ReadCells). IsInRect r.rect (cell_at i (first + m)))
    (ap (λ p. get_or reads p d) same ∙ is d) inside))
    (λ (later : k ≢ from). out k d (omega (arith, least, later)) below inside)
    (cases_eq k from)))

-- a row of a rectangle of so many rows
pub row_within : (all k rows wide : ℕ) → all ≡ rows * wide → k < rows → k * wide + wide ≤ all
row_within all k rows wide long below =
    let more : (k + 1) * wide ≤ rows * wide = mul-le (k + 1) wide rows wide (omega arith) (omega arith) in
    omega (arith, long, more)

pub row_long : (xs : List ℕ) (k rows wide : ℕ) → length xs ≡ rows * wide → k < rows → length (line_in wide xs k) ≡ wide
row_long xs k rows wide long below =
    part_long xs (k * wide) (k * wide + wide) wide (omega arith) (row_within (length xs) k rows wide long below)

-- how many numbers a row has
pub numbers_long : (read : ReadCells) (n : ℕ) → AreWhole read → read.rect.j0 ≤ n → n ≤ read.rect.j1
    → length (numbers_in read n) ≡ width_of read.rect
numbers_long read n whole south north =
    row_long read.numbers (n - read.rect.j0) (read.rect.j1 - read.rect.j0 + 1) (width_of read.rect) whole
    (omega (arith, south, north))

-- a row of whole words
pub words_whole : (rect : Rect) (words n : ℕ) → IsOfWords words rect → n ≡ width_of rect → n ≡ 64 * (n / 64)
words_whole rect words n is long =
    let first : 64 * (rect.i0 / 64) ≡ rect.i0 = is.first in
    let last : 64 * (rect.i1 / 64) + 63 ≡ rect.i1 = is.last in
    let columns : rect.i0 ≤ rect.i1 = is.columns in
    let wide : n ≡ rect.i1 - rect.i0 + 1 = long in
    omega (arith, first, last, columns, wide)

-- the words of a row lie in the band
pub words_within : (rect : Rect) (words k n start : ℕ) → IsOfWords words rect → n ≡ width_of rect → k < 32
    → start ≡ k * words + rect.i0 / 64 → start + n / 64 ≤ 32 * words
words_within rect words k n start is long below at =
    let first : 64 * (rect.i0 / 64) ≡ rect.i0 = is.first in
    let last : 64 * (rect.i1 / 64) + 63 ≡ rect.i1 = is.last in
    let columns : rect.i0 ≤ rect.i1 = is.columns in
    let fits : rect.i1 / 64 < words = is.within in
    let wide : n ≡ rect.i1 - rect.i0 + 1 = long in
    let count : n / 64 ≡ rect.i1 / 64 + 1 - rect.i0 / 64 = omega (arith, wide, first, last, columns) in
    let more : (k + 1) * words ≤ 32 * words = mul-le (k + 1) words 32 words (omega arith) (omega arith) in
    omega (arith, count, columns, fits, at, more)

-- ---- a rectangle that is read

-- what stands before the items that are put into a list
put_before : (old new rest : List ℕ) (start p : ℕ) → start ≤ length old → p < start
    → get_or (take start old ++ (new ++ rest)) p 0 ≡ get_or old p 0
put_before old new rest start p fits below =
    let front : length (take start old) ≡ start = length-take-le start old fits in
    get_or_append_left (take start old) (new ++ rest) 0 p (omega (arith, front, below))
    ∙ get_or-take start old p 0 below

-- and the items themselves
put_here : (old new rest : List ℕ) (start q : ℕ) → start ≤ length old → q < length new
    → get_or (take start old ++ (new ++ rest)) (start + q) 0 ≡ get_or new q 0
put_here old new rest start q fits below =
    let there : start + q - start ≡ q = omega arith in
    get_or-append_right (take start old) (new ++ rest) start (start + q) 0 (length-take-le start old fits) (omega arith)
    ∙ ap (λ p. get_or (new ++ rest) p 0) there
    ∙ get_or_append_left new rest 0 q below

-- the numbers of one row more are written
pub rows_more : (classes : ℕ) (passes : ℕ → Cell → Bool) (rect : Rect) (k start rows : ℕ) (old new rest : List ℕ)
    → start ≡ k * width_of rect → length old ≡ rows * width_of rect → k < rows → length new ≡ width_of rect
    → ((m : ℕ) → m < k → AreOfRow classes passes rect m old)
    → ((class column : ℕ) → class < classes → class < 16 → column < length new
    → bit_at (get_or new column 0) class ≡ bit_of (passes class (cell_at (rect.i0 + column) (rect.j0 + k))))
    → (m : ℕ) → m < k + 1 → AreOfRow classes passes rect m (take start old ++ (new ++ rest))
rows_more classes passes rect k start rows old new rest at long below wide before row m less class column known few within =
    let w : ℕ = width_of rect in
    let fits : k * w + w ≤ length old = row_within (length old) k rows w long below in
    let room : start ≤ length old = omega (arith, at, fits) in
    ⊎_elim
    (λ (early : m < k).
    let more : (m + 1) * w ≤ k * w = mul-le (m + 1) w k w (omega (arith, early)) (omega arith) in
    ap (λ x. bit_at x class) (put_before old new rest start (m * w + column) room (omega (arith, at, more, within)))
    ∙ before m early class column known few within)
    (λ (late : k ≤ m).
    let here : m ≡ k = omega (arith, late, less) in
    let place : m * w + column ≡ start + column = ap (λ n. n * w + column) here ∙ omega (arith, at) in
    ap (λ p. bit_at (get_or (take start old ++ (new ++ rest)) p 0) class) place
    ∙ ap (λ x. bit_at x class) (put_here old new rest start column room (omega (arith, wide, within)))
    ∙ row class column known few (omega (arith, wide, within))
    ∙ ap (λ n. bit_of (passes class (cell_at (rect.i0 + column) (rect.j0 + n)))) (sym here))
    (cases_lt m k)

-- the words that a rectangle meets hold its cells
pub cells_met : (rect words : Rect) (cell : Cell) → words.i0 ≡ 64 * (rect.i0 / 64) → words.i1 ≡ 64 * (rect.i1 / 64) + 63
    → words.j0 ≡ rect.j0 → words.j1 ≡ rect.j1 → IsInRect rect cell → IsInRect words cell
cells_met rect words cell from to low high inside =
    let a : rect.i0 ≤ cell.i = inside.west in
    let b : cell.i ≤ rect.i1 = inside.east in
    let c : rect.j0 ≤ cell.j = inside.south in
    let d : cell.j ≤ rect.j1 = inside.north in
    record {
      west = omega (arith, from, a);
      east = omega (arith, to, b);
      south = omega (arith, low, c);
      north = omega (arith, high, d);
    }
