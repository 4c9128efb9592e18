-- The cells of a chunk in the map, and what its labels say of a cell.
use Rattle.std.proofs.Common.{ℕ, ◌≡◌, ◌≤◌, ◌+◌, ◌/◌, Bool, IsTrue, ap, inl, inr, sym, ◌∙◌, arith, Some, length}
use Rattle.std.proofs.lemmas.Bool.{cases_Bool}
use Rattle.nav_types.specs.declared.cells.Cell.{Cell}
use Rattle.nav_types.specs.declared.cells.Chunk.{Chunk}
use Rattle.nav_types.specs.declared.cells.Size.{Size}
use Rattle.std.specs.List.{slice_get}
use Rattle.std.proofs.lemmas.Option.{slice_get_within}
use Rattle.nav_types.specs.Cells.{IsInside, IsInRect, IsBefore}
use Rattle.nav_types.specs.Regions.{passes_in, InOneRegion}
use Rattle.nav_types.specs.Numbering.{number_of}
use Rattle.chunk_regions.specs.Labelling.{Labelling, AreLabels}
use Rattle.nav_types.specs.Rects.{chunk_rect}
use Rattle.nav_types.proofs.CellOrder.{IsBefore-asym}
use Rattle.nav_types.proofs.FirstCells.{AreFirsts-unique}

-- an inside cell of the chunk lies in the chunk's rectangle
pub in_rect : (size : Size) (chunk : Chunk) (cell : Cell) → IsInside size cell → cell.i / 96 ≡ chunk.ci → cell.j / 96 ≡ chunk.cj
    → IsInRect (chunk_rect size chunk) cell
in_rect size chunk cell inside column row =
    let i = inside.column in
    let j = inside.row in
    record { west = omega arith; east = omega arith; south = omega arith; north = omega arith }

-- a cell of the chunk's rectangle lies in the chunk
pub in_chunk : (size : Size) (chunk : Chunk) (cell : Cell) → IsInRect (chunk_rect size chunk) cell
    → (cell.i / 96 ≡ chunk.ci) × (cell.j / 96 ≡ chunk.cj)
in_chunk size chunk cell inside =
    let w = inside.west in let e = inside.east in let s = inside.south in let n = inside.north in
    (omega arith, omega arith)

-- a passable cell of the chunk has 1 plus the place of its region's first cell among the labels' first cells
pub AreLabels-placed : (passes : Cell → Bool) (size : Size) (chunk : Chunk) (labels : Labelling) → AreLabels passes size chunk labels
    → (cell : Cell) → IsInRect labels.cells.rect cell → IsTrue (passes_in passes chunk cell)
    → (place : ℕ) × ((first : Cell) × ((slice_get labels.firsts place ≡ Some first)
    × (InOneRegion passes chunk cell first × (number_of labels.cells cell ≡ place + 1))))
AreLabels-placed passes size chunk labels are cell inside here =
    let p = (are.numbers cell inside).placed here in
    let lists = AreFirsts-unique (passes_in passes chunk) (InOneRegion passes chunk) IsBefore IsBefore-asym p.0 labels.firsts p.1.0 are.first_cells in
    (p.1.1.0, (p.1.1.1.0, (sym (ap (λ firsts. slice_get firsts p.1.1.0) lists) ∙ p.1.1.1.1.0, (p.1.1.1.1.1.0, p.1.1.1.1.1.1))))

-- a cell's number is at most the count of regions
pub AreLabels-at_most : (passes : Cell → Bool) (size : Size) (chunk : Chunk) (labels : Labelling) → AreLabels passes size chunk labels
    → (cell : Cell) → IsInRect labels.cells.rect cell → number_of labels.cells cell ≤ length labels.firsts
AreLabels-at_most passes size chunk labels are cell inside = elim (cases_Bool (passes_in passes chunk cell)) [
  | inl here ↦
      let p = AreLabels-placed passes size chunk labels are cell inside here in
      let bound = slice_get_within labels.firsts p.0 p.1.0 p.1.1.0 in
      let value = p.1.1.1.1 in
      omega arith
  | inr shut ↦ let none = (are.numbers cell inside).blocked shut in omega arith
]
