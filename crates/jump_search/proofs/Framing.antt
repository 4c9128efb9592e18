-- The rectangle of an aim: there is one, and the octile distance to it is an estimate.
use Rattle.std.proofs.Common.{ℕ, ◌≡◌, ◌+◌, ◌*◌, ◌≤◌, Bool, IsTrue, refl, ap, ◌∙◌, arith}
use Rattle.nav_types.specs.declared.cells.Cell.{Cell}
use Rattle.nav_types.specs.declared.cells.Rect.{Rect}
use Rattle.nav_types.specs.declared.cells.Size.{Size}
use Rattle.nav_types.specs.declared.directions.Dir.{Dir}
use Rattle.nav_types.specs.Cells.{cell_at, IsInside, IsInRect}
use Rattle.nav_types.specs.Directions.{step_cost}
use Rattle.nav_types.specs.Frames.{IsFrame}
use Rattle.nav_types.specs.Walks.{Step}
use Rattle.jump_search.specs.Estimates.{IsConsistent, IsEstimate}
use Rattle.jump_search.specs.JumpStates.{octile, octile_between, octile_to}
use Rattle.jump_search.proofs.Measuring.{octile_run, octile_to_through}

octile_none : (c r : ℕ) → c ≡ 0 → r ≡ 0 → octile c r ≡ 0
octile_none c r columns rows = omega (arith, columns, rows)

pub framed_none : (framed : Cell → Bool) (size : Size) (rect : Rect) (cell : Cell) → IsFrame framed size rect
    → IsInside size cell
    → IsTrue (framed cell) → octile_to rect cell ≡ 0
framed_none framed size rect cell frame inside is =
    let within = (frame.exact cell inside).1 is in
    let west = within.west in let east = within.east in let south = within.south in let north = within.north in
    octile_none _ _ (omega (arith, west, east)) (omega (arith, south, north))

-- the corners of one lie in the other
corners : (framed : Cell → Bool) (size : Size) (a b : Rect) → IsFrame framed size a → IsFrame framed size b
    → IsInRect b (cell_at a.i0 a.j0) × IsInRect b (cell_at a.i1 a.j1)
corners framed size a b one two =
    let inside = one.inside in
    let columns = inside.columns in let rows = inside.rows in let last_column = inside.last_column in let last_row =
    inside.last_row in
    let low : Cell = cell_at a.i0 a.j0 in
    let high : Cell = cell_at a.i1 a.j1 in
    let low_in : IsInside size low = record {
      column = omega (arith, columns, last_column);
      row = omega
          (arith, rows, last_row);
    } in
    let high_in : IsInside size high = record { column = last_column; row = last_row } in
    let low_a : IsInRect a low = record { west = omega arith; east = columns; south = omega arith; north = rows } in
    let high_a : IsInRect a high = record { west = columns; east = omega arith; south = rows; north = omega arith } in (
      (two.exact low low_in).1 ((one.exact low low_in).0 low_a),
      (two.exact high high_in).1
          ((one.exact high high_in).0 high_a),
    )

pub one_frame : (framed : Cell → Bool) (size : Size) (a b : Rect) → IsFrame framed size a → IsFrame framed size b
    → a ≡ b
one_frame framed size a b one two =
    let p = corners framed size a b one two in
    let q = corners framed size b a two one in
    let pw = p.0.west in let ps = p.0.south in let pe = p.1.east in let pn = p.1.north in
    let qw = q.0.west in let qs = q.0.south in let qe = q.1.east in let qn = q.1.north in
    let i0 : a.i0 ≡ b.i0 = omega (arith, pw, qw) in
    let j0 : a.j0 ≡ b.j0 = omega (arith, ps, qs) in
    let i1 : a.i1 ≡ b.i1 = omega (arith, pe, qe) in
    let j1 : a.j1 ≡ b.j1 = omega (arith, pn, qn) in
    let r = λ (w x y z : ℕ). let rect : Rect = record { i0 = w; j0 = x; i1 = y; j1 = z } in rect in
    ap (λ (n : ℕ). r n a.j0 a.i1 a.j1) i0 ∙ ap (λ (n : ℕ). r b.i0 n a.i1 a.j1) j0
    ∙ ap (λ (n : ℕ). r b.i0 b.j0 n a.j1) i1 ∙ ap (λ (n : ℕ). r b.i0 b.j0 b.i1 n) j1

octile_falls : (passes : Cell → Bool) (rect : Rect) (dir : Dir) (from to : Cell) → Step passes dir from to
    → octile_to rect from ≤ step_cost dir + octile_to rect to
octile_falls passes rect dir from to step =
    let through = octile_to_through rect from to in
    let cost : octile_between from to ≡ 1 * step_cost dir = octile_run passes dir 1 from to (to, (step, refl)) in
    omega (arith, through, cost)

pub octile_consistent : (passes hit framed : Cell → Bool) (size : Size) (rect : Rect)
    → ((cell : Cell) → IsTrue (passes cell) → IsInside size cell)
    → ((cell : Cell) → IsInside size cell → IsTrue (hit cell) → IsTrue (framed cell)) → IsFrame framed size rect
    → IsConsistent passes hit (octile_to rect)
octile_consistent passes hit framed size rect within hits_framed frame = record {
  none = λ cell passing is_hit. let inside = within cell passing in
      framed_none framed size rect cell frame inside (hits_framed cell inside is_hit);
  falls = octile_falls passes rect;
}

-- the octile distance to the rectangle of an aim is an estimate
pub octile_estimate : (passes hit framed : Cell → Bool) (size : Size) (rect : Rect)
    → ((cell : Cell) → IsTrue (passes cell) → IsInside size cell)
    → ((cell : Cell) → IsInside size cell → IsTrue (hit cell) → IsTrue (framed cell)) → IsFrame framed size rect
    → IsEstimate passes hit framed size (octile_to rect)
octile_estimate passes hit framed size rect within hits_framed frame = record {
  consistent = octile_consistent passes hit framed size rect within hits_framed frame;
  octile = λ other frames cell passing.
      let same = ap (λ (r : Rect). octile_to r cell) (one_frame framed size other rect frames frame) in
      omega (arith, same);
}
