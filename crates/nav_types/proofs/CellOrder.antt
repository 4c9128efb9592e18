-- The order of cells, and of cells by chunk.
use Rattle.std.proofs.Common.{◌+◌, ◌≡◌, ◌⊎◌, ap, inl, inr, sym, subst, ◌∙◌, arith}
use Rattle.std.proofs.lemmas.Bool.{cases_order, cases_lt}
use Rattle.nav_types.specs.declared.cells.Cell.{Cell}
use Rattle.nav_types.specs.declared.cells.Chunk.{Chunk}
use Rattle.nav_types.specs.Cells.{cell_at, chunk_at, chunk_of, IsBefore, IsNotAfter, IsChunkBefore}
use Rattle.nav_types.specs.Regions.{IsAreaBefore}

-- two cells of one column and one row are one
pub same_cell : (a b : Cell) → a.i ≡ b.i → a.j ≡ b.j → a ≡ b
same_cell a b column row = ap (λ i. cell_at i a.j) column ∙ ap (λ j. cell_at b.i j) row

pub same_chunk : (a b : Chunk) → a.ci ≡ b.ci → a.cj ≡ b.cj → a ≡ b
same_chunk a b column row = ap (λ ci. chunk_at ci a.cj) column ∙ ap (λ cj. chunk_at b.ci cj) row

-- no cell comes before itself
pub IsBefore-irrefl : (a : Cell) → IsBefore a a → ⊥
IsBefore-irrefl a before = elim before [ inl row ↦ omega arith | inr column ↦ omega arith ]

-- of two cells only one comes before the other
pub IsBefore-asym : (a b : Cell) → IsBefore a b → IsBefore b a → ⊥
IsBefore-asym a b here there = elim here [
  | inl row ↦ elim there [ inl back ↦ omega arith | inr column ↦ omega arith ]
  | inr column ↦ elim there [ inl back ↦ omega arith | inr back ↦ omega arith ]
]

-- two cells are one, or one comes before the other
pub IsBefore-cases : (a b : Cell) → (a ≡ b) ⊎ (IsBefore a b ⊎ IsBefore b a)
IsBefore-cases a b = elim (cases_order a.j b.j) [
  | inl row ↦ elim (cases_order a.i b.i) [
    | inl column ↦ inl (same_cell a b column row)
    | inr other ↦ elim other [ inl less ↦ inr (inl (inr (row, less))) | inr more ↦ inr (inr (inr (sym row, more))) ]
  ]
  | inr other ↦ elim other [ inl less ↦ inr (inl (inl less)) | inr more ↦ inr (inr (inl more)) ]
]

pub IsBefore-trans : (a b c : Cell) → IsBefore a b → IsBefore b c → IsBefore a c
IsBefore-trans a b c one two = elim one [
  | inl row ↦ elim two [ inl on ↦ inl (omega arith) | inr on ↦ inl (omega (arith, on.0)) ]
  | inr column ↦ elim two [ inl on ↦ inl (omega (arith, column.0)) | inr on ↦ inr (column.0 ∙ on.0, omega (arith, column.1, on.1)) ]
]

-- two cells of which neither is after the other are one
pub IsNotAfter-antisym : (a b : Cell) → IsNotAfter a b → IsNotAfter b a → a ≡ b
IsNotAfter-antisym a b (inl less) (inl more) = absurd (omega arith)
IsNotAfter-antisym a b (inl less) (inr (row, column)) = absurd (omega arith)
IsNotAfter-antisym a b (inr (row, column)) (inl more) = absurd (omega arith)
IsNotAfter-antisym a b (inr (row, column)) (inr (_, other)) = same_cell a b (omega arith) row

pub IsNotAfter-trans : (a b c : Cell) → IsNotAfter a b → IsNotAfter b c → IsNotAfter a c
IsNotAfter-trans a b c (inl less) (inl more) = inl (omega arith)
IsNotAfter-trans a b c (inl less) (inr (row, column)) = inl (omega arith)
IsNotAfter-trans a b c (inr (row, column)) (inl more) = inl (omega arith)
IsNotAfter-trans a b c (inr (row, column)) (inr (same, other)) = inr (omega arith, omega arith)

pub IsChunkBefore-asym : (a b : Chunk) → IsChunkBefore a b → IsChunkBefore b a → ⊥
IsChunkBefore-asym a b here there = elim here [
  | inl row ↦ elim there [ inl back ↦ omega arith | inr column ↦ omega arith ]
  | inr column ↦ elim there [ inl back ↦ omega arith | inr back ↦ omega arith ]
]

pub IsChunkBefore-irrefl : (a : Chunk) → IsChunkBefore a a → ⊥
IsChunkBefore-irrefl a before = IsChunkBefore-asym a a before before

pub IsChunkBefore-cases : (a b : Chunk) → (a ≡ b) ⊎ (IsChunkBefore a b ⊎ IsChunkBefore b a)
IsChunkBefore-cases a b = elim (cases_order a.cj b.cj) [
  | inl row ↦ elim (cases_order a.ci b.ci) [
    | inl column ↦ inl (same_chunk a b column row)
    | inr other ↦ elim other [ inl less ↦ inr (inl (inr (row, less))) | inr more ↦ inr (inr (inr (sym row, more))) ]
  ]
  | inr other ↦ elim other [ inl less ↦ inr (inl (inl less)) | inr more ↦ inr (inr (inl more)) ]
]

not_before_one : (a b : Chunk) → a ≡ b → IsChunkBefore a b → ⊥
not_before_one a b same before = IsChunkBefore-irrefl b (subst (λ (chunk : Chunk). IsChunkBefore chunk b) same before)

-- of two cells only one comes before the other by chunk, then by cell
pub IsAreaBefore-asym : (a b : Cell) → IsAreaBefore a b → IsAreaBefore b a → ⊥
IsAreaBefore-asym a b here there = elim here [
  | inl chunk ↦ elim there [
    | inl back ↦ IsChunkBefore-asym (chunk_of a) (chunk_of b) chunk back
    | inr cell ↦ not_before_one (chunk_of a) (chunk_of b) (sym cell.0) chunk
  ]
  | inr cell ↦ elim there [
    | inl back ↦ not_before_one (chunk_of b) (chunk_of a) (sym cell.0) back
    | inr back ↦ IsBefore-asym a b cell.1 back.1
  ]
]

pub IsAreaBefore-cases : (a b : Cell) → (a ≡ b) ⊎ (IsAreaBefore a b ⊎ IsAreaBefore b a)
IsAreaBefore-cases a b = elim (IsChunkBefore-cases (chunk_of a) (chunk_of b)) [
  | inl same ↦ elim (IsBefore-cases a b) [
    | inl one ↦ inl one
    | inr other ↦ elim other [ inl less ↦ inr (inl (inr (same, less))) | inr more ↦ inr (inr (inr (sym same, more))) ]
  ]
  | inr other ↦ elim other [ inl less ↦ inr (inl (inl less)) | inr more ↦ inr (inr (inl more)) ]
]

pub IsChunkBefore-trans : (a b c : Chunk) → IsChunkBefore a b → IsChunkBefore b c → IsChunkBefore a c
IsChunkBefore-trans a b c one two = elim one [
  | inl row ↦ elim two [ inl on ↦ inl (omega arith) | inr on ↦ inl (omega (arith, on.0)) ]
  | inr column ↦ elim two [ inl on ↦ inl (omega (arith, column.0)) | inr on ↦ inr (column.0 ∙ on.0, omega (arith, column.1, on.1)) ]
]

pub IsAreaBefore-trans : (a b c : Cell) → IsAreaBefore a b → IsAreaBefore b c → IsAreaBefore a c
IsAreaBefore-trans a b c one two = elim one [
  | inl chunk ↦ elim two [
    | inl on ↦ inl (IsChunkBefore-trans (chunk_of a) (chunk_of b) (chunk_of c) chunk on)
    | inr on ↦ inl (subst (λ (there : Chunk). IsChunkBefore (chunk_of a) there) on.0 chunk)
  ]
  | inr cell ↦ elim two [
    | inl on ↦ inl (subst (λ (here : Chunk). IsChunkBefore here (chunk_of c)) (sym cell.0) on)
    | inr on ↦ inr (cell.0 ∙ on.0, IsBefore-trans a b c cell.1 on.1)
  ]
]

-- what comes before the cell one column on comes before the cell, or is it
pub before_next : (c cell : Cell) → IsBefore c (cell_at (cell.i + 1) cell.j) → IsBefore c cell ⊎ (c ≡ cell)
before_next c cell before = elim before [
  | inl row ↦ inl (inl row)
  | inr column ↦ elim (cases_lt c.i cell.i) [
    | inl less ↦ inl (inr (column.0, less))
    | inr more ↦ let last = column.1 in inr (same_cell c cell (omega arith) column.0)
  ]
]
