-- From the bits of a chunk to its spans, and from the spans' regions to the chunk's labels.
use Rattle.std.proofs.Common.{ℕ, Bool, true, false, ◌≡◌, ◌<◌, ◌≤◌, ◌+◌, ◌-◌, ◌*◌, ◌/◌, ◌%◌, ◌⊎◌, ◌==◌, ◌&&◌, List, IsTrue, map, ap, inl, inr, refl, sym, subst, ◌∙◌, arith}
use Rattle.std.specs.List.{range_with_len}
use Rattle.std.proofs.lemmas.Bool.{and_from, eqb-true, eq-eqb, cases_Bool, both_ways}
use Rattle.std.proofs.lemmas.List.FromFn.{get_or-map-range_with_len}
use Rattle.std.proofs.lemmas.Nat.{div-mul-add, mod-mul-add, mul-add-lt}
use Rattle.std.proofs.lemmas.Option.{slice_get_within}
use Rattle.nav_types.specs.declared.cells.Cell.{Cell}
use Rattle.nav_types.specs.declared.cells.Chunk.{Chunk}
use Rattle.nav_types.specs.declared.cells.Rect.{Rect}
use Rattle.nav_types.specs.declared.cells.Size.{Size}
use Rattle.nav_types.specs.Cells.{cell_at, IsInRect, IsInside}
use Rattle.nav_types.specs.Numbering.{Numbering, columns, rows, number_of, place_in}
use Rattle.nav_types.specs.Regions.{passes_in, HasRegion}
use Rattle.chunk_regions.specs.Labelling.{AreLabels}
use Rattle.nav_types.specs.Rects.{chunk_rect}
use Rattle.chunk_regions.specs.declared.label_spans.Place.{Place}
use Rattle.chunk_regions.specs.inner.Spans.{Runs, AreRuns, Holds, IsCut, region_at, region_of, number_by}
use Rattle.chunk_regions.specs.inner.Joining.{IsNumbered}
use Rattle.chunk_regions.proofs.SpanLemmas.{region_of-blocked}
use Rattle.nav_types.proofs.CellOrder.{same_cell}
use Rattle.nav_types.proofs.Regions.{lies_in}

-- a cell past the map's end is not passable
pub shut_past : (passes : Cell → Bool) (size : Size) → ((cell : Cell) → IsTrue (passes cell) → IsInside size cell) → (cell : Cell)
    → (size.w ≤ cell.i) ⊎ (size.h ≤ cell.j) → passes cell ≡ false
shut_past passes size within cell past = elim (cases_Bool (passes cell)) [
  | inl passing ↦
      let inside = within cell passing in
      let column = inside.column in
      let row = inside.row in
      absurd (elim past [ inl east ↦ omega arith | inr north ↦ omega arith ])
  | inr shut ↦ shut
]

-- the columns of the chunk's rows are on whose cells are passable
abbrev pub IsOnWhere : (Cell → Bool) → Chunk → (ℕ → ℕ → ℕ) → Type 0
IsOnWhere passes chunk on =
    (r x : ℕ) → r < 96 → x < 96 → (on r x == 1) ≡ passes (cell_at (96 * chunk.ci + x) (96 * chunk.cj + r))

-- the spans of the columns that are on hold exactly the chunk's passable cells
pub IsCut-from_runs : (passes : Cell → Bool) (chunk : Chunk) (on : ℕ → ℕ → ℕ) (runs : Runs) → IsOnWhere passes chunk on → AreRuns on runs → IsCut (passes_in passes chunk) chunk runs
IsCut-from_runs passes chunk on runs of are = record {
  are = are.are;
  held = λ cell here.
      let lies = lies_in passes chunk cell here in
      let column = lies.column in
      let row = lies.row in
      let r = cell.j - 96 * chunk.cj in
      let x = cell.i - 96 * chunk.ci in
      let same : cell_at (96 * chunk.ci + x) (96 * chunk.cj + r) ≡ cell = same_cell (cell_at (96 * chunk.ci + x) (96 * chunk.cj + r)) cell (omega arith) (omega arith) in
      let set : (on r x == 1) ≡ true = of r x (omega arith) (omega arith) ∙ ap passes same ∙ lies.passable in
      let is = are.holds r x (omega arith) (omega arith) (eqb-true (on r x) 1 set) in
      let h = is.1 in
      let west = h.west in
      let east = h.east in
      let place : Place = record { row = r; at = is.0 } in (
        place,
        record {
          is = record { row = h.row; from = h.from; to = h.to; within = slice_get_within runs.spans is.0 h.span h.found };
          span = h.span;
          found = h.found;
          row = omega arith;
          west = omega arith;
          east = omega arith;
        },
      );
  passing = λ place cell has.
      let x = cell.i - 96 * chunk.ci in
      let row = has.row in
      let west = has.west in
      let east = has.east in
      let in_row = has.is.row in
      let ordered = are.are.ordered place.at has.span has.found in
      let within = ordered.1 in
      let h : Holds runs place.row place.at x = record {
        span = has.span;
        found = has.found;
        row = in_row;
        from = has.is.from;
        to = has.is.to;
        west = omega arith;
        east = omega arith;
      } in
      let same : cell_at (96 * chunk.ci + x) (96 * chunk.cj + place.row) ≡ cell = same_cell (cell_at (96 * chunk.ci + x) (96 * chunk.cj + place.row)) cell (omega arith) (omega arith) in
      let set = eq-eqb (on place.row x) 1 (are.set place.row place.at x h) in
      let passes_here : passes cell ≡ true = sym (of place.row x in_row (omega arith) ∙ ap passes same) ∙ set in
      and_from ((cell.i / 96 == chunk.ci) && (cell.j / 96 == chunk.cj)) (passes cell)
      (and_from (cell.i / 96 == chunk.ci) (cell.j / 96 == chunk.cj) (eq-eqb (cell.i / 96) chunk.ci (omega arith)) (eq-eqb (cell.j / 96) chunk.cj (omega arith))) passes_here;
}

-- ---- the numbers of the labels

-- the numbers of a rectangle's cells by the spans' regions
abbrev pub numbered_by : Runs → List ℕ → Rect → Numbering
numbered_by runs regions rect = record { rect = rect; numbers = map (number_by runs regions (columns rect)) (range_with_len 0 (columns rect * rows rect)) }

pub number_of-numbered_by : (runs : Runs) (regions : List ℕ) (rect : Rect) (cell : Cell) → IsInRect rect cell
    → number_of (numbered_by runs regions rect) cell ≡ region_at runs regions (cell.j - rect.j0) (cell.i - rect.i0)
unfolding number_of place_in
number_of-numbered_by runs regions rect cell inside =
    let w = inside.west in let e = inside.east in let s = inside.south in let n = inside.north in
    let row = cell.j - rect.j0 in
    let column = cell.i - rect.i0 in
    let place = row * columns rect + column in
    let within = mul-add-lt row (columns rect) column (rows rect) (omega arith) (omega arith) in
    let quotient : place / columns rect ≡ row = div-mul-add row (columns rect) column (omega arith) in
    let rest : place % columns rect ≡ column = mod-mul-add row (columns rect) column (omega arith) in
    get_or-map-range_with_len (number_by runs regions (columns rect)) 0 (columns rect * rows rect) place place 0 (omega arith) (omega arith)
    ∙ ap (λ r. region_at runs regions r (place % columns rect)) quotient
    ∙ ap (λ x. region_at runs regions row x) rest

-- where each passable cell has its region's number, the numbers are the labels
pub AreLabels-from_regions : (passes : Cell → Bool) (size : Size) (chunk : Chunk) (runs : Runs) (regions : List ℕ) (firsts : List Cell) (rect : Rect) (known : Bool) → rect ≡ chunk_rect size chunk
    → IsCut (passes_in passes chunk) chunk runs → IsNumbered (passes_in passes chunk) (region_of chunk runs regions) firsts
    → AreLabels passes size chunk (record { chunk = chunk; cells = numbered_by runs regions rect; firsts = firsts; within = known })
AreLabels-from_regions passes size chunk runs regions firsts rect known extent cut numbered = record {
  of_chunk = refl;
  extent = extent;
  numbers = λ cell inside.
      let west = inside.west in
      let south = inside.south in
      let north = inside.north in
      let i0 = ap (λ (r : Rect). r.i0) extent in
      let j0 = ap (λ (r : Rect). r.j0) extent in
      let j1 = ap (λ (r : Rect). r.j1) extent in
      let row : cell.j - rect.j0 ≡ cell.j - 96 * chunk.cj = omega arith in
      let column : cell.i - rect.i0 ≡ cell.i - 96 * chunk.ci = omega arith in
      let number : number_of (numbered_by runs regions rect) cell ≡ region_of chunk runs regions cell =
      number_of-numbered_by runs regions rect cell inside
      ∙ ap (λ r. region_at runs regions r (cell.i - rect.i0)) row
      ∙ ap (λ x. region_at runs regions (cell.j - 96 * chunk.cj) x) column in
      elim (cases_Bool (passes_in passes chunk cell)) [
        | inl here ↦ subst (λ n. HasRegion passes chunk cell n) (sym number) (numbered.numbers cell here)
        | inr shut ↦ record {
          blocked = λ again. number ∙ region_of-blocked (passes_in passes chunk) chunk runs regions cut cell (omega arith) (omega arith) (omega arith) shut;
          placed = λ here. absurd (both_ways (passes_in passes chunk cell) shut here);
        }
      ];
  first_cells = numbered.first_cells;
}
