-- From the labels of before and the bits of changed rows to the labels of now.
use Rattle.std.proofs.Common.{ℕ, Bool, true, false, ◌≡◌, ◌<◌, ◌≤◌, ◌+◌, ◌-◌, ◌*◌, ◌/◌, ◌==◌, ◌&&◌, ◌⊎◌, List, length, ap, inl, inr, sym, subst, ◌∙◌, arith}
use Rattle.std.specs.Prelude.{slice_index, replicate}
use Rattle.std.proofs.lemmas.Bool.{and_from, eq-eqb, cases_lt, cases_Bool, both_ways}
use Rattle.std.proofs.lemmas.Option.{slice_get_within}
use Rattle.nav_types.specs.declared.cells.Cell.{Cell}
use Rattle.nav_types.specs.declared.cells.Chunk.{Chunk}
use Rattle.nav_types.specs.declared.cells.Rect.{Rect}
use Rattle.nav_types.specs.declared.cells.Size.{Size}
use Rattle.nav_types.specs.Cells.{IsInRect}
use Rattle.nav_types.specs.Numbering.{IsPatch, columns, rows, number_of}
use Rattle.nav_types.specs.Regions.{passes_in}
use Rattle.nav_types.proofs.Regions.{lies_in}
use Rattle.chunk_regions.specs.Labelling.{AreLabels, AreRowBits, AgreeElsewhere, cell_of}
use Rattle.chunk_regions.specs.inner.Spans.{Runs, AreSpans, AreRuns, Holds, IsCut, AreBitsIn, AreSpansIn, bits_at, held_at, set_anew, region_at, region_of}
use Rattle.chunk_regions.specs.inner.Joining.{IsNumbered}
use Rattle.chunk_regions.proofs.ChunkLemmas.{IsOnWhere, IsCut-from_runs, AreLabels-from_regions, numbered_by, number_of-numbered_by}
use Rattle.chunk_regions.proofs.CopyLemmas.{held_at-held, held_at-some, set_anew-other, set_anew-here}
use Rattle.chunk_regions.proofs.LabelLemmas.{in_rect, AreLabels-placed}
use Rattle.chunk_regions.proofs.SpanLemmas.{region_at-held, region_at-none, region_at-some}

-- the spans of such bits hold cells of the rectangle alone
pub AreSpansIn-bits : (runs : Runs) (rect : Rect) (bits : List ℕ) → AreBitsIn (columns rect) (rows rect) 0 96 bits → AreRuns (bits_at bits) runs → AreSpansIn rect runs
AreSpansIn-bits runs rect bits inside are = record {
  within = λ r k x held. inside r x (omega arith) held.row (are.set r k x held);
}

-- so do those of changed rows with those that are taken over
pub AreSpansIn-anew : (before runs : Runs) (rect : Rect) (from to : ℕ) (bits : List ℕ) → AreSpansIn rect before → AreBitsIn (columns rect) (rows rect) from to bits
    → AreRuns (set_anew before from to bits) runs → AreSpansIn rect runs
AreSpansIn-anew before runs rect from to bits old inside are = record {
  within = λ r k x held.
      let one = are.set r k x held in
      let kept : (r < from) ⊎ (to ≤ r) → (r < rows rect) × (x < columns rect) = λ other.
      let was = held_at-some before r x held.row (sym (set_anew-other before from to bits r x other) ∙ one) in
      old.within r was.0 x was.1 in
      elim (cases_lt r from) [
        | inl south ↦ kept (inl south)
        | inr low ↦ elim (cases_lt r to) [
          | inl high ↦ inside r x low high (sym (set_anew-here before from to bits r x low high) ∙ one)
          | inr north ↦ kept (inr north)
        ]
      ];
}

-- the spans and regions of before, and the labels that they are
module _ (old : Cell → Bool) (size : Size) (chunk : Chunk) (before : Runs) (regions : List ℕ) (rect : Rect) (firsts : List Cell) (are : AreSpans before)
    (each : length regions ≡ length before.spans) (some : (at : ℕ) → at < length regions → 1 ≤ slice_index regions at) (known : Bool) (patch : IsPatch rect) (of : AreSpansIn rect before)
    (labels : AreLabels old size chunk (record { chunk = chunk; cells = numbered_by before regions rect; firsts = firsts; within = known })) where
  -- the number of a cell is that of the span that holds it
  number_at : (r x : ℕ) → r < 96 → x < 96 → IsInRect rect (cell_of chunk r x)
      → number_of (numbered_by before regions rect) (cell_of chunk r x) ≡ region_at before regions r x
  number_at r x in_row in_column inside =
      let west = ap (λ (z : Rect). z.i0) labels.extent in
      let south = ap (λ (z : Rect). z.j0) labels.extent in
      let row : 96 * chunk.cj + r - rect.j0 ≡ r = omega arith in
      let column : 96 * chunk.ci + x - rect.i0 ≡ x = omega arith in
      number_of-numbered_by before regions rect (cell_of chunk r x) inside
      ∙ ap (λ k. region_at before regions k (96 * chunk.ci + x - rect.i0)) row
      ∙ ap (λ k. region_at before regions r k) column

  -- the spans of before hold a passable cell of the rectangle
  open_held : (r x : ℕ) → r < 96 → x < 96 → IsInRect rect (cell_of chunk r x) → old (cell_of chunk r x) ≡ true → held_at before r x ≡ 1
  open_held r x in_row in_column inside open_cell =
      let cell = cell_of chunk r x in
      let here = and_from ((cell.i / 96 == chunk.ci) && (cell.j / 96 == chunk.cj)) (old cell)
      (and_from (cell.i / 96 == chunk.ci) (cell.j / 96 == chunk.cj) (eq-eqb (cell.i / 96) chunk.ci (omega arith)) (eq-eqb (cell.j / 96) chunk.cj (omega arith))) open_cell in
      let placed = AreLabels-placed old size chunk (record { chunk = chunk; cells = numbered_by before regions rect; firsts = firsts; within = known }) labels cell inside here in
      let value = placed.1.1.1.1 in
      let number = number_at r x in_row in_column inside in
      let held = region_at-some before regions r x in_row (omega arith) in
      held_at-held before are r held.0 x held.1

  -- and no other cell
  shut_free : (r x : ℕ) → r < 96 → x < 96 → old (cell_of chunk r x) ≡ false → held_at before r x ≡ 0
  shut_free r x in_row in_column shut =
      let cell = cell_of chunk r x in
      let none : (k : ℕ) → Holds before r k x → ⊥ = λ k held.
      let west = ap (λ (z : Rect). z.i0) labels.extent in
      let south = ap (λ (z : Rect). z.j0) labels.extent in
      let ordered = patch.columns in
      let upright = patch.rows in
      let is = of.within r k x held in
      let in_height = is.0 in
      let in_width = is.1 in
      let inside : IsInRect rect cell = record { west = omega arith; east = omega arith; south = omega arith; north = omega arith } in
      let number = number_at r x in_row in_column inside in
      let region = region_at-held before regions r k x are held in
      let place = slice_get_within before.spans k held.span held.found in
      let more = some k (omega arith) in
      elim (cases_Bool (passes_in old chunk cell)) [
        | inl here ↦ both_ways (old cell) shut (lies_in old chunk cell here).passable
        | inr blocked ↦ let zero = (labels.numbers cell inside).blocked blocked in omega arith
      ] in
      region_at-none before (replicate (length before.spans) 1) r x in_row none

  -- what is on with the bits of the changed rows are the passable cells of now
  on_anew : (passes : Cell → Bool) (from to : ℕ) (bits : List ℕ) → AgreeElsewhere old passes size chunk from to → AreRowBits passes chunk from to bits
      → IsOnWhere passes chunk (set_anew before from to bits)
  on_anew passes from to bits agree set =
      let anew = set_anew before from to bits in
      let kept : (r x : ℕ) → r < 96 → x < 96 → (r < from) ⊎ (to ≤ r) → (anew r x == 1) ≡ passes (cell_of chunk r x) = λ r x in_row in_column other.
      let cell = cell_of chunk r x in
      ap (λ n. n == 1) (set_anew-other before from to bits r x other) ∙ elim (cases_Bool (passes cell)) [
        | inl passing ↦
            let within = in_rect size chunk cell (agree.inside cell passing) (omega arith) (omega arith) in
            let inside = subst (λ (z : Rect). IsInRect z cell) (sym labels.extent) within in
            ap (λ n. n == 1) (open_held r x in_row in_column inside (agree.agree r x other in_row in_column ∙ passing)) ∙ sym passing
        | inr shut ↦ ap (λ n. n == 1) (shut_free r x in_row in_column (agree.agree r x other in_row in_column ∙ shut)) ∙ sym shut
      ] in
      λ r x in_row in_column. elim (cases_lt r from) [
        | inl south ↦ kept r x in_row in_column (inl south)
        | inr low ↦ elim (cases_lt r to) [
          | inl high ↦ ap (λ n. n == 1) (set_anew-here before from to bits r x low high) ∙ set.set r x low high in_column
          | inr north ↦ kept r x in_row in_column (inr north)
        ]
      ]

-- the spans of before with those of the changed rows, numbered, are the labels of now
pub AreLabels-anew : (old passes : Cell → Bool) (size : Size) (chunk own : Chunk) (before runs : Runs) (regions now : List ℕ) (rect : Rect) (firsts later : List Cell)
    (known known_now : Bool) (from to : ℕ) (bits : List ℕ) → AreSpans before → length regions ≡ length before.spans → ((at : ℕ) → at < length regions → 1 ≤ slice_index regions at)
    → IsPatch rect → AreSpansIn rect before → AreLabels old size chunk (record { chunk = own; cells = numbered_by before regions rect; firsts = firsts; within = known })
    → AgreeElsewhere old passes size chunk from to → AreRowBits passes chunk from to bits → AreRuns (set_anew before from to bits) runs
    → ((open_in : Cell → Bool) → IsCut open_in own runs → IsNumbered open_in (region_of own runs now) later)
    → AreLabels passes size chunk (record { chunk = own; cells = numbered_by runs now rect; firsts = later; within = known_now })
AreLabels-anew old passes size chunk own before runs regions now rect firsts later known known_now from to bits are each some patch of labels agree set anew numbered =
    let same : own ≡ chunk = labels.of_chunk in
    let were = subst (λ (z : Chunk). AreLabels old size z (record { chunk = own; cells = numbered_by before regions rect; firsts = firsts; within = known })) (sym same) labels in
    let agrees = subst (λ (z : Chunk). AgreeElsewhere old passes size z from to) (sym same) agree in
    let sets = subst (λ (z : Chunk). AreRowBits passes z from to bits) (sym same) set in
    let on = on_anew old size own before regions rect firsts are each some known patch of were passes from to bits agrees sets in
    let cut = IsCut-from_runs passes own (set_anew before from to bits) runs on anew in
    subst (λ (z : Chunk). AreLabels passes size z (record { chunk = own; cells = numbered_by runs now rect; firsts = later; within = known_now })) same
    (AreLabels-from_regions passes size own runs now later rect known_now were.extent cut (numbered (passes_in passes own) cut))
