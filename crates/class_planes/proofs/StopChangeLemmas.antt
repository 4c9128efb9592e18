-- Stops of lines in which some places have changed.
use Rattle.std.proofs.Common.{◌≡◌, ℕ, zero, suc, ◌+◌, ◌*◌, ◌/◌, ◌<◌, ◌≤◌, min, max, Bool, List, [], length, map, get_or, sym, ap, ap₂, ◌∙◌, subst, arith}
use Rattle.std.specs.Prelude.{All}
use Rattle.std.proofs.lemmas.List.{length-map, get_or-map}
use Rattle.nav_types.specs.declared.cells.Cell.{Cell}
use Rattle.nav_types.specs.declared.cells.Rect.{Rect}
use Rattle.nav_types.specs.declared.cells.Size.{Size}
use Rattle.nav_types.specs.Cells.{IsInRect, IsRectInside, cell_at}
use Rattle.lane_rows.specs.Rows.{one_if}
use Rattle.class_planes.specs.Planes.{IsOutside}
use Rattle.nav_types.specs.declared.straights.Way.{Way}
use Rattle.nav_types.specs.declared.straights.Way.TheVariants.{Up, Down}
use Rattle.class_planes.specs.inner.Lines.{LineTable, RowTable, AreLines, AreRows, AreColumns, free_cell, line_at, line_in}
use Rattle.class_planes.specs.inner.Runs.{bit_in, opening, LaneWords}
use Rattle.class_planes.specs.inner.StopLines.{AreSameOutside, AreStops, AreStopsBefore, IsFarFrom, IsRectOf, IsStopBit, lanes_of, line_before, stop_bit, turned_rect}
use Rattle.class_planes.proofs.PlaneLemmas.{line_free}

-- far from the rectangles, the places beside are outside of them
pub far_outside : (rects : List Rect) (n i n' i' : ℕ) → IsFarFrom rects n i → n' ≤ n + 1 → n ≤ n' + 1 → i' ≤ i + 1
    → i ≤ i' + 1 → IsOutside rects (cell_at i' n')
far_outside rects n i n' i' far up down right left k d below inside =
    let west : (get_or rects k d).i0 ≤ i' = inside.west in
    let east : i' ≤ (get_or rects k d).i1 = inside.east in
    let south : (get_or rects k d).j0 ≤ n' = inside.south in
    let north : n' ≤ (get_or rects k d).j1 = inside.north in
    far k d below (record {
      south = omega (arith, south, up);
      north = omega (arith, north, down);
      west = omega (arith, west, right);
      east = omega (arith, east, left);
    })

-- the bits of three lines at a place are those of three others
pub record AreSameAt (old new : LaneWords) (i : ℕ) : Type 0 where
  pub mid : bit_in old.mid i ≡ bit_in new.mid i
  pub left : bit_in old.left i ≡ bit_in new.left i
  pub right : bit_in old.right i ≡ bit_in new.right i

bits_same : (old new : LaneWords) (here next on : ℕ) → AreSameAt old new here → AreSameAt old new next
    → stop_bit old here next on ≡ stop_bit new here next on
bits_same old new here next on at_here at_next =
    ap₂ min at_next.mid (ap (λ x. max x on)
    (ap₂ max (ap₂ opening at_here.left at_next.left) (ap₂ opening at_here.right at_next.right)))

pub lanes_changed : (way : Way) (old new : LaneWords) (stops : List ℕ) (i : ℕ)
    → ((j : ℕ) → j ≤ i + 1 → i ≤ j + 1 → AreSameAt old new j) → IsStopBit way old stops i → IsStopBit way new stops i
lanes_changed Up old new stops i same is =
    is ∙ bits_same old new i (suc i) (bit_in stops (suc i)) (same i (omega arith) (omega arith))
    (same (suc i) (omega arith) (omega arith))
lanes_changed Down old new stops zero same is = is
lanes_changed Down old new stops (suc j) same is =
    is ∙ bits_same old new (suc j) j (bit_in stops j) (same (suc j) (omega arith) (omega arith))
    (same j (omega arith) (omega arith))

before_same : (rects : List Rect) (count words n j : ℕ) (old new : LineTable) → n < count
    → All (IsRectOf count words) rects
    → ((m i : ℕ) → m ≤ count → IsOutside rects (cell_at i m) → bit_in (line_at old m) i ≡ bit_in (line_at new m) i)
    → ((m : ℕ) → m ≤ n + 1 → n ≤ m + 1 → IsOutside rects (cell_at j m))
    → bit_in (line_at old (line_before count n)) j ≡ bit_in (line_at new (line_before count n)) j
before_same rects count words zero j old new line inside same outside = same count j (omega arith)
    (λ k d below at.
    let last : (get_or rects k d).j1 < count = (inside k d below).last_line in
    let north : count ≤ (get_or rects k d).j1 = at.north in
    omega (arith, last, north))
before_same rects count words (suc m) j old new line inside same outside =
    same m j (omega (arith, line)) (outside m (omega arith) (omega arith))

-- the stops of lines that were the same outside of the rectangles
pub stops_before : (way : Way) (rects : List Rect) (count : ℕ) (old new stops : LineTable) → old.words ≡ new.words
    → All (IsRectOf count new.words) rects
    → AreSameOutside count old new rects
    → AreStops way count old stops → AreStopsBefore way rects count new stops
stops_before way rects count old new stops words inside same are = record {
  wide = are.wide ∙ words;
  many = are.many;
  each = λ b below.
      let was = are.each b below in
      let band : List ℕ = get_or stops.bands b [] in
      record {
        long = was.long ∙ ap (λ w. 32 * w) words;
        each = λ m i small line within far.
            let n : ℕ = 32 * b + m in
            let outside = λ (n' i' : ℕ) (up : n' ≤ n + 1) (down : n ≤ n' + 1) (right : i' ≤ i + 1) (left : i ≤ i' + 1).
            far_outside rects n i n' i' far up down right left in
            lanes_changed way (lanes_of old count n) (lanes_of new count n) (line_in new.words band m) i
            (λ j right left. record {
              mid = same n j (omega (arith, line)) (outside n j (omega arith) (omega arith) right left);
              left = same (n + 1) j (omega (arith, line)) (outside (n + 1) j (omega arith) (omega arith) right left);
              right = before_same rects count new.words n j old new line inside same
                  (λ n' up down. outside n' j up down right left);
            })
            (subst (λ w. IsStopBit way (lanes_of old count n) (line_in w band m) i) words
            (was.each m i small line (omega (arith, within, words)) tt));
      };
}

-- the same bits of two tables
lines_same : (free now : ℕ → ℕ → Bool) (count words n i : ℕ) (old new : LineTable)
    → AreLines free (count / 32 + 1) words old → AreLines now (count / 32 + 1) words new → n ≤ count
    → free n i ≡ now n i → bit_in (line_at old n) i ≡ bit_in (line_at new n) i
lines_same free now count words n i old new were are within same =
    line_free free (count / 32 + 1) words n old were (omega (arith, within)) i ∙ ap one_if same
    ∙ sym (line_free now (count / 32 + 1) words n new are (omega (arith, within)) i)

rect_of : (size : Size) (words : ℕ) (rect : Rect) → words ≡ size.w / 64 + 1 → IsRectInside size rect
    → IsRectOf size.h words rect
rect_of size words rect wide inside =
    let east : rect.i1 < size.w = inside.last_column in
    record { last_word = omega (arith, east, wide); last_line = inside.last_row; some = inside.rows }

turned_of : (size : Size) (words : ℕ) (rect : Rect) → words ≡ size.h / 64 + 1 → IsRectInside size rect
    → IsRectOf size.w words (turned_rect rect)
turned_of size words rect wide inside =
    let north : rect.j1 < size.h = inside.last_row in
    record { last_word = omega (arith, north, wide); last_line = inside.last_column; some = inside.columns }

-- the rectangles lie in the lines of the map
pub rects_of_rows : (size : Size) (words : ℕ) (rects : List Rect) → words ≡ size.w / 64 + 1
    → All (IsRectInside size) rects → All (IsRectOf size.h words) rects
rects_of_rows size words rects wide inside = λ k d below. rect_of size words (get_or rects k d) wide (inside k d below)

-- the rows of a map that was the same outside of the rectangles
pub rows_alike : (table : RowTable) (rows : LineTable) (rects : List Rect) → AreRows table
    → AreRows (record { size = table.size; rows = rows })
    → ((cell : Cell) → IsOutside rects cell
    → free_cell table cell ≡ free_cell (record { size = table.size; rows = rows }) cell)
    → AreSameOutside table.size.h table.rows rows rects
rows_alike table rows rects were are same n i within out =
    lines_same (λ j i. free_cell table (cell_at i j))
    (λ j i. free_cell (record { size = table.size; rows = rows }) (cell_at i j)) table.size.h (table.size.w / 64 + 1) n i
    table.rows rows were are within (same (cell_at i n) out)

-- ---- columns and rows exchanged

pub turned_outside : (rects transposed : List Rect) (i j : ℕ) → transposed ≡ map turned_rect rects
    → IsOutside transposed (cell_at j i) → IsOutside rects (cell_at i j)
turned_outside rects transposed i j is out k d below inside =
    let other : Rect = turned_rect d in
    let all : IsOutside (map turned_rect rects) (cell_at j i) = subst (λ (rs : List Rect). IsOutside rs (cell_at j i)) is out in
    let at : get_or (map turned_rect rects) k other ≡ turned_rect (get_or rects k d) = get_or-map turned_rect rects k d other below in
    all k other (omega (arith, below, length-map rects turned_rect))
    (subst (λ (r : Rect). IsInRect r (cell_at j i)) (sym at)
    (record { west = inside.south; east = inside.north; south = inside.west; north = inside.east }))

pub turned_inside : (rects transposed : List Rect) (count words : ℕ) → transposed ≡ map turned_rect rects
    → ((k : ℕ) (d : Rect) → k < length rects → IsRectOf count words (turned_rect (get_or rects k d)))
    → All (IsRectOf count words) transposed
turned_inside rects transposed count words is each =
    subst (All (IsRectOf count words)) (sym is) (λ k d below.
    let there : k < length rects = omega (arith, below, length-map rects turned_rect) in
    let other : Rect = turned_rect d in
    subst (IsRectOf count words) (sym (get_or-map turned_rect rects k other d there)) (each k other there))

pub rects_of_columns : (size : Size) (words : ℕ) (rects transposed : List Rect) → words ≡ size.h / 64 + 1
    → transposed ≡ map turned_rect rects → All (IsRectInside size) rects → All (IsRectOf size.w words) transposed
rects_of_columns size words rects transposed wide is inside =
    turned_inside rects transposed size.w words is
    (λ k d below. turned_of size words (get_or rects k d) wide (inside k d below))

-- and its columns
pub columns_alike : (table : RowTable) (rows was columns : LineTable) (rects transposed : List Rect)
    → transposed ≡ map turned_rect rects → AreColumns table was → AreColumns (record { size = table.size; rows = rows }) columns
    → ((cell : Cell) → IsOutside rects cell
    → free_cell table cell ≡ free_cell (record { size = table.size; rows = rows }) cell)
    → AreSameOutside table.size.w was columns transposed
columns_alike table rows was columns rects transposed is were are same n i within out =
    lines_same (λ i j. free_cell table (cell_at i j))
    (λ i j. free_cell (record { size = table.size; rows = rows }) (cell_at i j)) table.size.w (table.size.h / 64 + 1) n i
    was columns were are within (same (cell_at n i) (turned_outside rects transposed n i is out))
