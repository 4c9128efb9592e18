-- The numbers of a painted map's row.
use Rattle.std.proofs.Common.{◌≡◌, ℕ, zero, suc, ◌+◌, ◌-◌, ◌*◌, ◌/◌, ◌==◌, ◌<◌, ◌≤◌, ◌++◌, not, List, length, take, drop, get_or, Some, refl, sym, ap, ◌∙◌, subst, ⊎_elim, arith}
use Rattle.std.specs.Int.{bit_at}
use Rattle.std.specs.Prelude.{slice_get}
use Rattle.std.proofs.lemmas.Bool.{cases_lt}
use Rattle.std.proofs.lemmas.List.{get_or-append_right, get_or_append_left, get_or-take, get_or-drop, length-drop, length-take-le}
use Rattle.std.proofs.lemmas.Nat.Bits.{bit_at-lt}
use Rattle.nav_types.specs.declared.cells.Cell.{Cell}
use Rattle.nav_types.specs.declared.cells.Chunk.{Chunk}
use Rattle.nav_types.specs.declared.cells.Rect.{Rect}
use Rattle.nav_types.specs.declared.cells.Size.{Size}
use Rattle.nav_types.specs.Cells.{IsInside, IsInRect, cell_at, chunk_at, chunk_of}
use Rattle.nav_types.specs.Numbering.{Numbering, columns, number_of}
use Rattle.nav_types.specs.Rows.{bit_of}
use Rattle.nav_types.proofs.CellOrder.{same_chunk}
use Rattle.obstruction_store.specs.Standing.{Standing}
use Rattle.posts.specs.Maps.{Map}
use Rattle.grid_versions.specs.Passing.{passable_at}
use Rattle.grid_versions.specs.Chunks.{chunk_columns, chunk_count, chunk_place}
use Rattle.grid_versions.specs.inner.ChunkLists.{IsChunkInside}
use Rattle.grid_versions.specs.inner.Painting.{IsPaintedChunk, ArePaintedChunks}
use Rattle.grid_versions.proofs.ChunkLemmas.{AreOfChunks-at}
use Rattle.grid_versions.proofs.VersionLemmas.{in_own_rect, free_is_passable}

-- a bit is 1 where its test fails
bit_from : (b : ℕ) → b < 2 → b ≡ bit_of (not (b == 1))
bit_from zero low = refl
bit_from (suc zero) low = refl
bit_from (suc (suc b)) low = absurd (omega arith)

-- a cell's bits say for which classes it is impassable
number_bit : (map : Map) (standing : Standing) (cell : Cell) (found : Numbering) (k : ℕ) → IsInside map.size cell
    → k < length map.classes → IsPaintedChunk map standing (chunk_of cell) found
    → bit_at (number_of found cell) k ≡ bit_of (passable_at map standing k cell)
number_bit map standing cell found k inside class painted =
    bit_from (bit_at (number_of found cell) k) (bit_at-lt (number_of found cell) k)
    ∙ ap bit_of (free_is_passable map standing cell found k inside class painted)

-- the numbers of the chunk of row j in a column of chunks
pub row_chunk : (map : Map) (standing : Standing) (cells : List Numbering) (size : Size) (j ci place : ℕ)
    (found : Numbering) → ArePaintedChunks map standing cells → size ≡ map.size → j < map.size.h → ci < chunk_columns size
    → place ≡ chunk_place size (chunk_at ci (j / 96)) → slice_get cells place ≡ Some found
    → IsPaintedChunk map standing (chunk_at ci (j / 96)) found
row_chunk map standing cells size j ci place found are same high below is there =
    let columns_same = ap (λ (s : Size). chunk_columns s) same in
    let chunk : Chunk = chunk_at ci (j / 96) in
    let inside : IsChunkInside map.size chunk = record { column = omega arith; row = omega arith } in
    AreOfChunks-at map.size (chunk_count map.size) (IsPaintedChunk map standing) cells chunk found are inside
    (ap (λ p. slice_get cells p) (sym (is ∙ ap (λ (s : Size). chunk_place s chunk) same)) ∙ there)

-- where a row lies in the rectangle of a chunk's numbers, and the rectangle in the map
pub record HoldsRow (size : Size) (j ci : ℕ) (rect : Rect) : Type 0 where
  pub south : rect.j0 ≤ j
  pub north : j ≤ rect.j1
  pub east : 96 * ci + columns rect ≤ size.w

pub holds_row : (map : Map) (standing : Standing) (size : Size) (j ci : ℕ) (found : Numbering) → size ≡ map.size
    → j < map.size.h → ci < chunk_columns size → IsPaintedChunk map standing (chunk_at ci (j / 96)) found
    → HoldsRow map.size j ci found.rect
holds_row map standing size j ci found same high below painted =
    let columns_same = ap (λ (s : Size). chunk_columns s) same in
    let wide = map.size.wide.some in
    subst (λ (r : Rect). HoldsRow map.size j ci r) (sym painted.extent)
    (record { south = omega arith; north = omega arith; east = omega arith })

-- the bits of the numbers from place `from` on, where those of one chunk more are written behind the others
pub row_more : (map : Map) (standing : Standing) (j ci from west k i : ℕ) (found : Numbering) (row old new : List ℕ)
    → j < map.size.h → IsPaintedChunk map standing (chunk_at ci (j / 96)) found → west ≡ 96 * ci → k < length map.classes
    → length row ≡ columns found.rect
    → ((cell : Cell) → IsInRect found.rect cell → cell.j ≡ j → get_or row (cell.i - found.rect.i0) 0 ≡ number_of found cell)
    → ((p : ℕ) → p < length new → west ≤ from + p → from + p < west + length row
    → get_or new p 0 ≡ get_or row (from + p - west) 0)
    → ((p : ℕ) → from + p < west → get_or new p 0 ≡ get_or old p 0)
    → (from + i < west → bit_at (get_or old i 0) k ≡ bit_of (passable_at map standing k (cell_at (from + i) j)))
    → i < length new → from + i < 96 * (ci + 1) → from + i < map.size.w
    → bit_at (get_or new i 0) k ≡ bit_of (passable_at map standing k (cell_at (from + i) j))
row_more map standing j ci from west k i found row old new high painted is class long cells inside before so_far room below within = ⊎_elim
    (λ (early : from + i < west). ap (λ n. bit_at n k) (before i early) ∙ so_far early)
    (λ (late : west ≤ from + i).
    let cell : Cell = cell_at (from + i) j in
    let in_map : IsInside map.size cell = record { column = within; row = high } in
    let column : (from + i) / 96 ≡ ci = omega arith in
    let here : chunk_at ci (j / 96) ≡ chunk_of cell = same_chunk (chunk_at ci (j / 96)) (chunk_of cell) (sym column) refl in
    let own = subst (λ (c : Chunk). IsPaintedChunk map standing c found) here painted in
    let in_rect = in_own_rect map standing cell found in_map own in
    let starts : found.rect.i0 ≡ west = ap (λ (r : Rect). r.i0) painted.extent ∙ omega arith in
    let east = in_rect.east in
    let small : from + i < west + length row = omega (arith, long, starts) in
    ap (λ n. bit_at n k) (inside i room late small ∙ ap (λ p. get_or row (from + i - p) 0) (sym starts)
    ∙ cells cell in_rect refl)
    ∙ number_bit map standing cell found k in_map class own)
    (cases_lt (from + i) west)

-- a part of the numbers, put into a list
pub put_inside : (out numbers rest : List ℕ) (start count skip k : ℕ) → start ≤ length out → skip + count ≤ length numbers
    → start ≤ k → k < start + count
    → get_or (take start out ++ (take count (drop skip numbers) ++ rest)) k 0 ≡ get_or numbers (skip + (k - start)) 0
put_inside out numbers rest start count skip k fits given low high =
    let part : List ℕ = take count (drop skip numbers) in
    let long : length part ≡ count = length-take-le count (drop skip numbers) (omega (arith, length-drop skip numbers, given)) in
    get_or-append_right (take start out) (part ++ rest) start k 0 (length-take-le start out fits) low
    ∙ get_or_append_left part rest 0 (k - start) (omega (arith, long, low, high))
    ∙ get_or-take count (drop skip numbers) (k - start) 0 (omega (arith, low, high))
    ∙ get_or-drop skip numbers (k - start) 0
