-- Places of chunks, and the items of a list that has one for each chunk.
use Rattle.std.proofs.Common.{ℕ, [], ◌∷◌, ◌++◌, length-append, ◌≡◌, ◌+◌, ◌*◌, ◌/◌, ◌<◌, ◌≤◌, ◌==◌, ◌&&◌, Bool, List, IsTrue, refl, ap, inl, inr, sym, subst, ◌∙◌, arith, Some}
use Rattle.std.specs.List.{slice_get}
use Rattle.std.proofs.lemmas.Nat.{mul-le, mul-add-lt, div-mul-add, mod-mul-add, div_below, mod_below, div-add-mod'}
use Rattle.std.proofs.lemmas.Bool.{and_from, eq-eqb}
use Rattle.std.proofs.lemmas.Option.{slice_get_cases}
use Rattle.nav_types.specs.declared.cells.Cell.{Cell}
use Rattle.nav_types.specs.declared.cells.Chunk.{Chunk}
use Rattle.nav_types.specs.declared.cells.Size.{Size}
use Rattle.nav_types.specs.Cells.{IsInside, chunk_of, IsChunkBefore}
use Rattle.nav_types.specs.Regions.{passes_in}
use Rattle.nav_types.proofs.CellOrder.{same_chunk, IsChunkBefore-cases}
use Rattle.nav_types.proofs.Items.{slice_get-push_cases}
use Rattle.grid_versions.specs.Chunks.{chunk_columns, chunk_rows, chunk_count, chunk_place}
use Rattle.grid_versions.specs.inner.ChunkLists.{chunk_numbered, IsChunkInside, AreOfChunks}

-- a chunk inside has a chunk column below the number of columns, and a chunk row below the number of rows
pub column_below : (size : Size) (chunk : Chunk) → IsChunkInside size chunk → chunk.ci < chunk_columns size
column_below size chunk inside = let c = inside.column in omega arith

pub row_below : (size : Size) (chunk : Chunk) → IsChunkInside size chunk → chunk.cj < chunk_rows size
row_below size chunk inside = let r = inside.row in omega arith

pub place_below : (size : Size) (chunk : Chunk) → IsChunkInside size chunk → chunk_place size chunk < chunk_count size
place_below size chunk inside =
    let fits = mul-add-lt chunk.cj (chunk_columns size) chunk.ci (chunk_rows size) (row_below size chunk inside) (column_below size chunk inside) in
    omega (arith, fits)

-- the chunk at a chunk's place is that chunk
pub numbered-place : (size : Size) (chunk : Chunk) → IsChunkInside size chunk → chunk_numbered size (chunk_place size chunk) ≡ chunk
numbered-place size chunk inside =
    let below = column_below size chunk inside in
    same_chunk (chunk_numbered size (chunk_place size chunk)) chunk
    (mod-mul-add chunk.cj (chunk_columns size) chunk.ci below) (div-mul-add chunk.cj (chunk_columns size) chunk.ci below)

pub columns_some : (size : Size) → 0 < chunk_columns size
columns_some size = let wide = size.wide.some in omega arith

-- the place of the chunk at a place is that place
pub place-numbered : (size : Size) (place : ℕ) → chunk_place size (chunk_numbered size place) ≡ place
place-numbered size place = div-add-mod' place (chunk_columns size)

-- the chunk at a place has a cell in the map
pub numbered_inside : (size : Size) (place : ℕ) → place < chunk_count size → IsChunkInside size (chunk_numbered size place)
numbered_inside size place low =
    let some = columns_some size in
    let row = div_below place (chunk_columns size) (chunk_rows size) some low in
    let column = mod_below place (chunk_columns size) some in
    record { column = omega arith; row = omega arith }

-- two chunks inside at one place are one
pub one_place : (size : Size) (a b : Chunk) → IsChunkInside size a → IsChunkInside size b → chunk_place size a ≡ chunk_place size b → a ≡ b
one_place size a b a_in b_in same =
    sym (numbered-place size a a_in) ∙ ap (λ place. chunk_numbered size place) same ∙ numbered-place size b b_in

-- an inside cell's chunk has a cell in the map
pub chunk_inside : (size : Size) (cell : Cell) → IsInside size cell → IsChunkInside size (chunk_of cell)
chunk_inside size cell inside =
    let column = inside.column in let row = inside.row in
    record { column = omega arith; row = omega arith }

pub rows_up : (m n k : ℕ) → m ≤ n → m * k ≤ n * k
rows_up m n k low = mul-le m k n k low (omega arith)

-- chunks inside are in the order of their places
pub place_before : (size : Size) (a b : Chunk) → IsChunkInside size a → IsChunkInside size b → IsChunkBefore a b → chunk_place size a < chunk_place size b
place_before size a b a_in b_in before =
    let a_low = column_below size a a_in in
    elim before [
      | inl row ↦
          let fits : (a.cj + 1) * chunk_columns size ≤ b.cj * chunk_columns size = rows_up (a.cj + 1) b.cj (chunk_columns size) (omega arith) in
          let more : (a.cj + 1) * chunk_columns size ≡ a.cj * chunk_columns size + chunk_columns size = omega arith in
          omega (arith, fits, more)
      | inr column ↦
          let same : a.cj * chunk_columns size ≡ b.cj * chunk_columns size = ap (λ n. n * chunk_columns size) column.0 in
          omega (arith, same, column.1)
    ]

pub before_place : (size : Size) (a b : Chunk) → IsChunkInside size a → IsChunkInside size b → chunk_place size a < chunk_place size b → IsChunkBefore a b
before_place size a b a_in b_in low = elim (IsChunkBefore-cases a b) [
  | inl same ↦ absurd (omega (arith, ap (λ (chunk : Chunk). chunk_place size chunk) same))
  | inr other ↦ elim other [
    | inl before ↦ before
    | inr after ↦ absurd (omega (arith, place_before size b a b_in a_in after))
  ]
]

-- a passable cell passes in its own chunk
pub passes_own : (passes : Cell → Bool) (cell : Cell) → IsTrue (passes cell) → IsTrue (passes_in passes (chunk_of cell) cell)
passes_own passes cell passable =
    let i = cell.i / 96 in let j = cell.j / 96 in
    and_from ((i == i) && (j == j)) (passes cell) (and_from (i == i) (j == j) (eq-eqb i i refl) (eq-eqb j j refl)) passable

-- each place below the count has an item
pub item_at : {A : Type 0} (size : Size) (count : ℕ) (Is : Chunk → A → Type 0) (items : List A) → AreOfChunks size count Is items
    → (place : ℕ) → place < count → (item : A) × (slice_get items place ≡ Some item)
item_at size count Is items of place low =
    let each = of.each in
    elim (slice_get_cases items place).1 [
      | inl here ↦ (here.0, here.2)
      | inr past ↦ absurd (omega (arith, past.0))
    ]

-- ---- one item for each chunk

-- one chunk more
pub AreOfChunks-push : {A : Type 0} (size : Size) (count : ℕ) (Is : Chunk → A → Type 0) (items : List A) (item : A)
    → AreOfChunks size count Is items → Is (chunk_numbered size count) item → AreOfChunks size (count + 1) Is (items ++ item ∷ [])
AreOfChunks-push size count Is items item of is =
    let each = of.each in
    record {
      each = omega (arith, length-append items (item ∷ []));
      are = λ place other at. elim (slice_get-push_cases items item place other at) [
        | inl here ↦ of.are place other here
        | inr last ↦
            let same : count ≡ place = omega (arith, last.0) in
            subst (λ (k : ℕ). Is (chunk_numbered size k) other) same (subst (λ x. Is (chunk_numbered size count) x) last.1 is)
      ];
    }

-- the item at an inside chunk's place is the chunk's
pub AreOfChunks-at : {A : Type 0} (size : Size) (count : ℕ) (Is : Chunk → A → Type 0) (items : List A) (chunk : Chunk) (item : A)
    → AreOfChunks size count Is items → IsChunkInside size chunk → slice_get items (chunk_place size chunk) ≡ Some item → Is chunk item
AreOfChunks-at size count Is items chunk item of inside at =
    subst (λ (c : Chunk). Is c item) (numbered-place size chunk inside) (of.are (chunk_place size chunk) item at)

pub AreOfChunks-weaker : {A : Type 0} (size : Size) (count : ℕ) (Is Other : Chunk → A → Type 0) (items : List A)
    → ((chunk : Chunk) (item : A) → Is chunk item → Other chunk item) → AreOfChunks size count Is items → AreOfChunks size count Other items
AreOfChunks-weaker size count Is Other items weaker of =
    record { each = of.each; are = λ place item at. weaker (chunk_numbered size place) item (of.are place item at) }
