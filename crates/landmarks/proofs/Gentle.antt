-- A table whose squares are gentle is so along each legal step, and may be added to gentle ones.
use Rattle.std.proofs.Common.{ℕ, ◌≡◌, ◌+◌, ◌-◌, ◌*◌, ◌<◌, ◌≤◌, inl, inr, Bool, List, IsTrue, length, get_or, refl, sym, ap, ◌∙◌, subst, arith}
use Rattle.std.specs.Int.{abs_diff}
use Rattle.std.proofs.Math.Nat.{add-mul}
use Rattle.std.proofs.lemmas.Bool.{cases_eq, cases_lt}
use Rattle.std.proofs.lemmas.List.{get_or_past}
use Rattle.std.proofs.lemmas.Nat.{mul-add-lt}
use Rattle.nav_types.specs.declared.cells.Cell.{Cell}
use Rattle.nav_types.specs.declared.cells.Size.{Size}
use Rattle.nav_types.specs.declared.directions.Dir.{Dir}
use Rattle.nav_types.specs.declared.directions.Dir.TheVariants.{N, E, S, W, NE, SE, SW, NW}
use Rattle.nav_types.specs.Cells.{IsInside, cell_at}
use Rattle.nav_types.specs.Walks.{Step}
use Rattle.landmarks.specs.Landmarks.{Tables, AreGentle, spot_of, most_apart}
use Rattle.landmarks.specs.HalfTables.{Half, IsBegun, IsDone}
use Rattle.landmarks.specs.inner.Fields.{spots, AreAllGentle, IsSquareGentle, IsWritten}

-- the mark of a cell
abbrev pub mark_of : Size → List ℕ → Cell → ℕ
mark_of size marks cell = get_or marks (spot_of size cell) 0

-- a place more along a row
row_more : (a w : ℕ) → (a + 1) * w ≡ a * w + w
row_more a w = omega (arith, add-mul a 1 w)

spot_of-high : (size : Size) (cell : Cell) → IsInside size cell → spot_of size cell + size.w + 3 < spots size
spot_of-high size cell inside =
    let far = mul-add-lt (cell.j + 1 + 1) (size.w + 2) (cell.i + 2) (size.h + 2) (omega (arith, inside.row)) (omega (arith, inside.column)) in
    omega (arith, far, row_more (cell.j + 1) (size.w + 2))

-- what is known of the marks
pub record AreKnown (passes : Cell → Bool) (size : Size) (marks : List ℕ) : Type 0 where
  pub inside : (cell : Cell) → IsTrue (passes cell) → IsInside size cell
  pub long : length marks ≡ spots size
  pub most : (spot : ℕ) → get_or marks spot 0 ≤ 65535
  pub marked : (cell : Cell) → IsTrue (passes cell) → 0 < mark_of size marks cell
  pub gentle : AreAllGentle (size.w + 2) marks

-- the place of the cell in the same column or the next one, in the same row or the next one
spot_beside : (size : Size) (here there : Cell) (east north : ℕ) → there.i ≡ here.i + east → there.j ≡ here.j + north
    → spot_of size there ≡ spot_of size here + north * (size.w + 2) + east
spot_beside size here there east north columns rows =
    let w = size.w + 2 in
    let same : (there.j + 1) * w ≡ (here.j + 1 + north) * w = ap (λ (k : ℕ). k * w) (omega (arith, rows)) in
    omega (arith, same, add-mul (here.j + 1) north w, columns)

-- four cells that share a corner are gentle
square : (passes : Cell → Bool) (size : Size) (marks : List ℕ) (sw se nw ne : Cell) → AreKnown passes size marks
    → se.i ≡ sw.i + 1 → se.j ≡ sw.j → nw.i ≡ sw.i → nw.j ≡ sw.j + 1 → ne.i ≡ sw.i + 1 → ne.j ≡ sw.j + 1
    → spot_of size sw + (size.w + 2) + 2 ≤ spots size
    → IsSquareGentle (mark_of size marks sw) (mark_of size marks se) (mark_of size marks nw) (mark_of size marks ne)
square passes size marks sw se nw ne known se_i se_j nw_i nw_j ne_i ne_j within =
    let w = size.w + 2 in
    let at = spot_of size sw in
    let at_se : spot_of size se ≡ at + 1 = omega (arith, spot_beside size sw se 1 0 se_i (omega (arith, se_j))) in
    let at_nw : spot_of size nw ≡ at + w = omega (arith, spot_beside size sw nw 0 1 (omega (arith, nw_i)) nw_j) in
    let at_ne : spot_of size ne ≡ at + w + 1 = omega (arith, spot_beside size sw ne 1 1 ne_i ne_j) in
    let all = known.gentle (at + 1) (omega (arith, within, known.long)) at (omega arith) in
    let m = λ (k : ℕ). get_or marks k 0 in
    subst (λ (k : ℕ). IsSquareGentle (m at) (m k) (mark_of size marks nw) (mark_of size marks ne)) (sym at_se)
    (subst (λ (k : ℕ). IsSquareGentle (m at) (m (at + 1)) (m k) (mark_of size marks ne)) (sym at_nw)
    (subst (λ (k : ℕ). IsSquareGentle (m at) (m (at + 1)) (m (at + w)) (m k)) (sym at_ne) all))

turned : (a b d : ℕ) → abs_diff a b ≤ d → abs_diff b a ≤ d
turned a b d near = omega arith

near_marks : (passes : Cell → Bool) (size : Size) (marks : List ℕ) (dir : Dir) (from to : Cell) → AreKnown passes size marks
    → Step passes dir from to → abs_diff (mark_of size marks from) (mark_of size marks to) ≤ most_apart dir
near_marks passes size marks N from to known step =
    let columns = step.leads.columns in let rows = step.leads.rows in
    let high = spot_of-high size from (known.inside from step.start) in
    (square passes size marks from (cell_at (from.i + 1) from.j) to (cell_at (from.i + 1) (from.j + 1)) known
    refl refl (omega arith) (omega arith) refl refl (omega arith)).column (known.marked from step.start) (known.marked to step.next)
near_marks passes size marks S from to known step =
    let columns = step.leads.columns in let rows = step.leads.rows in
    let high = spot_of-high size to (known.inside to step.next) in
    turned (mark_of size marks to) (mark_of size marks from) 12
    ((square passes size marks to (cell_at (to.i + 1) to.j) from (cell_at (to.i + 1) (to.j + 1)) known
    refl refl (omega arith) (omega arith) refl refl (omega arith)).column (known.marked to step.next) (known.marked from step.start))
near_marks passes size marks E from to known step =
    let columns = step.leads.columns in let rows = step.leads.rows in
    let high = spot_of-high size from (known.inside from step.start) in
    (square passes size marks from to (cell_at from.i (from.j + 1)) (cell_at (from.i + 1) (from.j + 1)) known
    (omega arith) (omega arith) refl refl refl refl (omega arith)).row (known.marked from step.start) (known.marked to step.next)
near_marks passes size marks W from to known step =
    let columns = step.leads.columns in let rows = step.leads.rows in
    let high = spot_of-high size to (known.inside to step.next) in
    turned (mark_of size marks to) (mark_of size marks from) 12
    ((square passes size marks to from (cell_at to.i (to.j + 1)) (cell_at (to.i + 1) (to.j + 1)) known
    (omega arith) (omega arith) refl refl refl refl (omega arith)).row (known.marked to step.next) (known.marked from step.start))
near_marks passes size marks NE from to known step =
    let columns = step.leads.columns in let rows = step.leads.rows in
    let side = cell_at to.i from.j in let ahead = cell_at from.i to.j in
    let high = spot_of-high size from (known.inside from step.start) in
    (square passes size marks from side ahead to known
    (omega arith) refl refl (omega arith) (omega arith) (omega arith) (omega arith)).rising
    (known.marked side step.side) (known.marked ahead step.ahead) (known.marked from step.start) (known.marked to step.next)
near_marks passes size marks SW from to known step =
    let columns = step.leads.columns in let rows = step.leads.rows in
    let side = cell_at to.i from.j in let ahead = cell_at from.i to.j in
    let high = spot_of-high size to (known.inside to step.next) in
    turned (mark_of size marks to) (mark_of size marks from) 17
    ((square passes size marks to ahead side from known
    (omega arith) refl refl (omega arith) (omega arith) (omega arith) (omega arith)).rising
    (known.marked ahead step.ahead) (known.marked side step.side) (known.marked to step.next) (known.marked from step.start))
near_marks passes size marks NW from to known step =
    let columns = step.leads.columns in let rows = step.leads.rows in
    let side = cell_at to.i from.j in let ahead = cell_at from.i to.j in
    let high = spot_of-high size side (known.inside side step.side) in
    (square passes size marks side from to ahead known
    (omega arith) refl refl (omega arith) (omega arith) (omega arith) (omega arith)).falling
    (known.marked side step.side) (known.marked ahead step.ahead) (known.marked from step.start) (known.marked to step.next)
near_marks passes size marks SE from to known step =
    let columns = step.leads.columns in let rows = step.leads.rows in
    let side = cell_at to.i from.j in let ahead = cell_at from.i to.j in
    let high = spot_of-high size ahead (known.inside ahead step.ahead) in
    turned (mark_of size marks to) (mark_of size marks from) 17
    ((square passes size marks ahead to from side known
    (omega arith) refl refl (omega arith) (omega arith) (omega arith) (omega arith)).falling
    (known.marked ahead step.ahead) (known.marked side step.side) (known.marked to step.next) (known.marked from step.start))

-- ---- a table more

one_less : (a b d : ℕ) → 0 < a → 0 < b → abs_diff a b ≤ d → abs_diff (a - 1) (b - 1) ≤ d
one_less a b d x y near = omega arith

abbrev pub tables_of : Size → ℕ → List ℕ → Tables
tables_of size made numbers = record { size = size; made = made; numbers = numbers }

pub gentle_added : (passes : Cell → Bool) (size : Size) (made more : ℕ) (marks old new : List ℕ) → made < 8
    → AreKnown passes size marks → length old ≡ 8 * spots size → IsWritten made (length marks) marks old new
    → AreGentle passes (tables_of size made old) → AreGentle passes (tables_of size more new)
gentle_added passes size made more marks old new room known whole written gentle =
    let numbers = λ (list : List ℕ) (cell : Cell) (table : ℕ). get_or list (8 * spot_of size cell + table) 0 in
    let here : (cell : Cell) → spot_of size cell < length marks → numbers new cell made ≡ mark_of size marks cell - 1 =
    λ cell within. written.written (spot_of size cell) within in
    let within : (cell : Cell) → IsTrue (passes cell) → spot_of size cell < length marks =
    λ cell free. omega (arith, spot_of-high size cell (known.inside cell free), known.long) in
    let aside : (cell : Cell) (table : ℕ) → table < 8 → (table ≡ made → ⊥) → numbers new cell table ≡ numbers old cell table =
    λ cell table below other. written.others (spot_of size cell) table below
    (elim (cases_lt table made) [ inl before ↦ inl before | inr after ↦ inr (omega (arith, after, other)) ]) in
    record {
      steps = λ dir from to table below step. elim (cases_eq table made) [
        | inl same ↦
            let a = mark_of size marks from in
            let b = mark_of size marks to in
            let near = one_less a b (most_apart dir) (known.marked from step.start) (known.marked to step.next) (near_marks passes size marks dir from to known step) in
            let P = λ (x y : ℕ). abs_diff x y ≤ most_apart dir in
            let is_from : numbers new from table ≡ a - 1 = ap (λ (t : ℕ). numbers new from t) same ∙ here from (within from step.start) in
            let is_to : numbers new to table ≡ b - 1 = ap (λ (t : ℕ). numbers new to t) same ∙ here to (within to step.next) in
            subst (λ (x : ℕ). P x (numbers new to table)) (sym is_from) (subst (λ (y : ℕ). P (a - 1) y) (sym is_to) near)
        | inr other ↦
            let P = λ (x y : ℕ). abs_diff x y ≤ most_apart dir in
            subst (λ (x : ℕ). P x (numbers new to table)) (sym (aside from table below other))
            (subst (λ (y : ℕ). P (numbers old from table) y) (sym (aside to table below other)) (gentle.steps dir from to table below step))
      ];
      few = λ cell table below. elim (cases_eq table made) [
        | inl same ↦ elim (cases_lt (spot_of size cell) (length marks)) [
          | inl inside ↦ omega (arith, ap (λ (t : ℕ). numbers new cell t) same, here cell inside, known.most (spot_of size cell))
          | inr past ↦ omega (arith, get_or_past new (8 * spot_of size cell + table) 0 (omega (arith, past, known.long, whole, written.long)))
        ]
        | inr other ↦ omega (arith, aside cell table below other, gentle.few cell table below)
      ];
    }

-- the marks of a table that is done are known
pub known_marks : (passes : Cell → Bool) (half : Half) → IsBegun passes half → IsDone half → AreKnown passes half.size half.marks
known_marks passes half begun done = record {
  inside = begun.inside;
  long = begun.marks.long;
  most = begun.marks.most;
  marked = λ cell free. begun.marks.marked cell free (inl (omega (arith, (begun.inside cell free).row, done.rows)));
  gentle = λ end within at below. begun.gentle at (omega (arith, within, done.squares, below));
}

-- how many tables are made makes no difference
pub gentle_counted : (passes : Cell → Bool) (size : Size) (made more : ℕ) (numbers : List ℕ) → AreGentle passes (tables_of size made numbers)
    → AreGentle passes (tables_of size more numbers)
gentle_counted passes size made more numbers gentle = record { steps = gentle.steps; few = gentle.few }
