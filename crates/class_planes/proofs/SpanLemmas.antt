-- Bands that no rectangle touches.
use Rattle.std.proofs.Common.{ℕ, Bool, List, [], ◌≡◌, ◌<◌, ◌≤◌, ◌+◌, ◌*◌, ◌/◌, get_or, arith}
use Rattle.std.specs.Prelude.{⊤, All}
use Rattle.nav_types.specs.declared.cells.Rect.{Rect}
use Rattle.nav_types.specs.declared.straights.Axis.{Axis}
use Rattle.nav_types.specs.declared.straights.Axis.TheVariants.{Row, Column}
use Rattle.nav_types.specs.declared.straights.Way.{Way}
use Rattle.nav_types.specs.Cells.{cell_at}
use Rattle.class_planes.specs.Planes.{IsOutside}
use Rattle.class_planes.specs.inner.Lines.{LineTable, RowTable, AreColumnsBefore, AreLinesBefore, IsBand, free_cell}
use Rattle.class_planes.specs.inner.Spans.{IsLineAbout}
use Rattle.class_planes.specs.inner.StopLines.{AreBandStops, AreStopsBefore}
use Rattle.class_planes.proofs.StopBandLemmas.{band_far}
use Rattle.class_planes.proofs.TurnLemmas.{band_same}
use Rattle.class_planes.proofs.UpdateLemmas.{band_stays}

-- outside of a span of bands no rectangle has a line, or one beside it
abbrev pub AreAbout : Axis → List Rect → ℕ → ℕ → ℕ → Type 0
AreAbout axis rects count from to = (n : ℕ) → n / 32 < count → (from ≤ n / 32 → n / 32 < to → ⊥)
    → All (λ rect. IsLineAbout axis rect n → ⊥) rects

about_band : (axis : Axis) (rects : List Rect) (count from to b n : ℕ) → AreAbout axis rects count from to
    → b < count → (from ≤ b → b < to → ⊥) → 32 * b ≤ n → n < 32 * b + 32
    → All (λ rect. IsLineAbout axis rect n → ⊥) rects
about_band axis rects count from to b n about below out low high =
    let same : n / 32 ≡ b = omega (arith, low, high) in
    about n (omega (arith, same, below)) (λ least most. out (omega (arith, least, same)) (omega (arith, most, same)))

-- the rows of a band that no rectangle touches
pub rows_same : (free : ℕ → ℕ → Bool) (rects : List Rect) (count words from to : ℕ) (table : LineTable)
    → AreLinesBefore free (IsOutside rects) count words table → AreAbout Row rects count from to
    → (b : ℕ) → b < count → (from ≤ b → b < to → ⊥) → IsBand free (32 * b) words 32 (get_or table.bands b [])
rows_same free rects count words from to table before about b below out =
    band_stays before.earlier free rects (32 * b) words (get_or table.bands b []) (before.lines.each b below) before.same
    (λ n i low high k d within inside.
    let south : (get_or rects k d).j0 ≤ n = inside.south in
    let north : n ≤ (get_or rects k d).j1 = inside.north in
    about_band Row rects count from to b n about below out low high k d within
    (record { from = omega (arith, south); to = omega (arith, north) }))

-- the columns of one
pub columns_same : (table : RowTable) (rects : List Rect) (from to : ℕ) (columns : LineTable)
    → AreColumnsBefore table rects columns → AreAbout Column rects (table.size.w / 32 + 1) from to
    → (b : ℕ) → b < table.size.w / 32 + 1 → (from ≤ b → b < to → ⊥)
    → IsBand (λ i j. free_cell table (cell_at i j)) (32 * b) (table.size.h / 64 + 1) 32 (get_or columns.bands b [])
columns_same table rects from to columns before about b below out =
    band_same before.earlier (λ i j. free_cell table (cell_at i j)) b (table.size.h / 64 + 1) (get_or columns.bands b [])
    (before.lines.each b below)
    (λ n i in_band. before.same (cell_at n i) (λ k d within inside.
    let west : (get_or rects k d).i0 ≤ n = inside.west in
    let east : n ≤ (get_or rects k d).i1 = inside.east in
    about_band Column rects (table.size.w / 32 + 1) from to b n about below out (omega (arith, in_band)) (omega (arith, in_band))
    k d within (record { from = omega (arith, west); to = omega (arith, east) })))

-- the stops of one
pub stops_same : (way : Way) (lines stops : LineTable) (count : ℕ) (rects : List Rect) (from to : ℕ)
    → AreStopsBefore way rects count lines stops → AreAbout Row rects (count / 32 + 1) from to
    → (b : ℕ) → b < count / 32 + 1 → (from ≤ b → b < to → ⊥)
    → AreBandStops (λ n i. ⊤) way lines count (32 * b) (get_or stops.bands b [])
stops_same way lines stops count rects from to before about b below out =
    band_far way lines count (32 * b) rects (get_or stops.bands b [])
    (λ n i low high k d within near.
    about_band Row rects (count / 32 + 1) from to b n about below out low high k d within
    (record { from = near.south; to = near.north }))
    (before.each b below)
