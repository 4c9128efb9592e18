-- What is seen of a segment line by line.
use Rattle.std.proofs.Common.{ℕ, ◌≡◌, ◌+◌, ◌<◌, ◌≤◌, inl, inr, Bool, IsTrue, refl, sym, ap, ◌∙◌, ◌*◌, subst, arith}
use Rattle.std.proofs.lemmas.Bool.{cases_lt, not-false}
use Rattle.nav_types.specs.declared.cells.Cell.{Cell}
use Rattle.nav_types.specs.declared.straights.Axis.{Axis}
use Rattle.nav_types.specs.declared.straights.Axis.TheVariants.{Row, Column}
use Rattle.nav_types.specs.Lines.{cell_on, line_on, place_on, IsFirstBlocked}
use Rattle.line_smooth.specs.Segments.{gap, Touches, IsClear}
use Rattle.line_smooth.specs.inner.Lines.{IsBetween}

pub place_on-cell_on : (axis : Axis) (line place : ℕ) → place_on axis (cell_on axis line place) ≡ place
place_on-cell_on Row line place = refl
place_on-cell_on Column line place = refl

pub line_on-cell_on : (axis : Axis) (line place : ℕ) → line_on axis (cell_on axis line place) ≡ line
line_on-cell_on Row line place = refl
line_on-cell_on Column line place = refl

-- a cell is the one at its place of its line
pub cell_on-self : (axis : Axis) (cell : Cell) → cell_on axis (line_on axis cell) (place_on axis cell) ≡ cell
cell_on-self Row cell = refl
cell_on-self Column cell = refl

-- cells that a segment touches are on a line between those of its ends
pub touched_between : (axis : Axis) (a b cell : Cell) → Touches a b cell → IsBetween (line_on axis a) (line_on axis b) (line_on axis cell)
touched_between Row a b cell touches = touches.rows
touched_between Column a b cell touches = touches.columns

-- a segment touches the cells of its ends
near_from : (x y n m s t : ℕ) → n ≡ 0 → m ≡ 0 → 2 * gap (x * n) (y * m) ≤ s + t
near_from x y n m s t none nought =
    let p : x * n ≡ x * 0 = ap (λ (k : ℕ). x * k) none in
    let q : y * m ≡ y * 0 = ap (λ (k : ℕ). y * k) nought in
    omega arith

near_to : (x y s t : ℕ) → 2 * gap (x * y) (y * x) ≤ s + t
near_to x y s t = omega arith

pub touches_from : (a b : Cell) → Touches a b a
touches_from a b = record {
  columns = omega arith;
  rows = omega arith;
  near = near_from (gap a.i b.i) (gap a.j b.j) (gap a.j a.j) (gap a.i a.i) (gap a.i b.i) (gap a.j b.j) (omega arith) (omega arith);
}

pub touches_to : (a b : Cell) → Touches a b b
touches_to a b = record {
  columns = omega arith;
  rows = omega arith;
  near = near_to (gap a.i b.i) (gap a.j b.j) (gap a.i b.i) (gap a.j b.j);
}

-- the first place of a line that is blocked comes no earlier than where it is looked for
pub not_before : (passes : Cell → Bool) (axis : Axis) (cell : Cell) (line first end place : ℕ) → cell ≡ cell_on axis line first
    → IsFirstBlocked (λ k. passes (cell_on axis (line_on axis cell) k)) (place_on axis cell) end place → first ≤ place
not_before passes axis cell line first end place is found =
    let e : place_on axis cell ≡ first = ap (place_on axis) is ∙ place_on-cell_on axis line first in
    let low = found.reached in
    omega arith

-- and what comes before it is passable
pub passes_before : (passes : Cell → Bool) (axis : Axis) (cell : Cell) (line first end place k : ℕ) → cell ≡ cell_on axis line first
    → IsFirstBlocked (λ k. passes (cell_on axis (line_on axis cell) k)) (place_on axis cell) end place
    → first ≤ k → k < place → IsTrue (passes (cell_on axis line k))
passes_before passes axis cell line first end place k is found low high =
    let e : place_on axis cell ≡ first = ap (place_on axis) is ∙ place_on-cell_on axis line first in
    let l : line_on axis cell ≡ line = ap (line_on axis) is ∙ line_on-cell_on axis line first in
    let P = λ (n : ℕ). IsTrue (passes (cell_on axis n k)) in
    subst P l (not-false (passes (cell_on axis (line_on axis cell) k)) (found.none_before k (omega arith) high))

-- a segment is clear where each line between its ends is
pub clear_by_lines : (passes : Cell → Bool) (axis : Axis) (a b : Cell)
    → ((line place : ℕ) → IsBetween (line_on axis a) (line_on axis b) line → Touches a b (cell_on axis line place) → IsTrue (passes (cell_on axis line place)))
    → IsClear passes a b
clear_by_lines passes axis a b each cell touches =
    let self = cell_on-self axis cell in
    let P = λ (c : Cell). IsTrue (passes c) in
    let Q = λ (c : Cell). Touches a b c in
    subst P self (each (line_on axis cell) (place_on axis cell) (touched_between axis a b cell touches) (subst Q (sym self) touches))

-- what holds of the lines less far across, and of the next one, holds of one line more
pub one_line_more : (P : ℕ → Type 0) (from to across next line : ℕ) → IsBetween from to next → gap from next ≡ across
    → ((line : ℕ) → IsBetween from to line → gap from line < across → P line) → P next
    → IsBetween from to line → gap from line < across + 1 → P line
one_line_more P from to across next line on is before here between near =
    elim (cases_lt (gap from line) across) [
      | inl less ↦ before line between less
      | inr most ↦
          let is : next ≡ line = omega arith in
          subst P is here
    ]
