-- What changes in the planes of a version.
use Rattle.std.proofs.Common.{◌≡◌, ◌≢◌, ◌↔◌, ℕ, zero, suc, ◌<◌, ◌≤◌, ◌⊎◌, ◌||◌, ◌==◌, Bool, true, false, not, List, length, map as each_of, get_or, inl, inr, refl, sym, ap, ◌∙◌, subst, ⊎_elim, arith, Some, option_map}
use Rattle.std.specs.Prelude.{IsTrue, IsFalse, slice_get}
use Rattle.std.specs.Int.{bit_at}
use Rattle.std.proofs.lemmas.Bool.{cases_Bool, cases_lt, false_from_ne_true}
use Rattle.std.proofs.lemmas.List.{length-map}
use Rattle.std.proofs.lemmas.Nat.Bits.{bit_at-zero, bit_at-lt, same_from_bits}
use Rattle.std.proofs.lemmas.Option.{same_Some, slice_get-map, slice_get-get_or}
use Rattle.nav_types.specs.declared.cells.Cell.{Cell}
use Rattle.nav_types.specs.declared.cells.Rect.{Rect}
use Rattle.nav_types.specs.declared.cells.Chunk.{Chunk}
use Rattle.nav_types.specs.declared.cells.Size.{Size}
use Rattle.nav_types.specs.Cells.{IsInside, IsInRect, IsRectInside, chunk_of}
use Rattle.nav_types.specs.Numbering.{Numbering, number_of}
use Rattle.nav_types.specs.Rects.{chunk_rect, IsPartOf}
use Rattle.lane_rows.specs.Rows.{has_class}
use Rattle.navcell_grid.specs.Patches.{DiffersIn}
use Rattle.class_planes.specs.declared.changed_parts.ChangedPart.{ChangedPart}
use Rattle.class_planes.specs.Planes.{IsKept}
use Rattle.chunk_regions.proofs.LabelLemmas.{in_rect}
use Rattle.obstruction_store.specs.Standing.{Standing}
use Rattle.posts.specs.Maps.{Map}
use Rattle.grid_versions.specs.Chunks.{chunk_count, chunk_place}
use Rattle.grid_versions.specs.Passing.{has_base, passable_at}
use Rattle.grid_versions.specs.inner.ChunkLists.{chunk_numbered, IsChunkInside}
use Rattle.grid_versions.specs.inner.Painting.{IsPaintedChunk, ArePaintedChunks}
use Rattle.grid_versions.specs.inner.SameNumbers.{AreChunksOf, IsSameAt}
use Rattle.grid_versions.specs.inner.Changing.{AreChanges, CoverPassable}
use Rattle.grid_versions.specs.inner.Reaching.{Reached, is_in_some, CoverChanges}
use Rattle.grid_versions.proofs.ChangeLemmas.{same_unless, unmarked_agrees}
use Rattle.grid_versions.proofs.ChunkLemmas.{chunk_inside, place_below, numbered-place, item_at, AreOfChunks-at, AreOfChunks-weaker}
use Rattle.grid_versions.proofs.PassingLemmas.{passable_in_words}
use Rattle.grid_versions.proofs.TallyLemmas.{differing_inside}
use Rattle.grid_versions.proofs.VersionLemmas.{passable-inside, own_rect, chunk-passes}

-- ---- the part of one chunk

-- no class is in a number without bits
pub no_class : (k : ℕ) → IsFalse (has_class k 0)
no_class k = ap (λ b. b == 1) (bit_at-zero k)

-- the chunk at the place of a cell's chunk holds the cell
pub in_numbered : (size : Size) (cell : Cell) → IsInside size cell
    → IsInRect (chunk_rect size (chunk_numbered size (chunk_place size (chunk_of cell)))) cell
in_numbered size cell inside =
    subst (λ (c : Chunk). IsInRect (chunk_rect size c) cell)
    (sym (numbered-place size (chunk_of cell) (chunk_inside size cell inside)))
    (in_rect size (chunk_of cell) cell inside refl refl)

-- numbers that are not apart are one
pub one_number : (a b : ℕ) → (a ≢ b → ⊥) → a ≡ b
one_number a b same = elim (cases_lt a b) [
  | inl below ↦ absurd (same (λ is. omega (arith, below, is)))
  | inr from ↦ elim (cases_lt b a) [
    | inl above ↦ absurd (same (λ is. omega (arith, above, is)))
    | inr to ↦ omega (arith, from, to)
  ]
]

-- numbers below 2 that are both 1 or both not are one
same_bit : (x y : ℕ) → x < 2 → y < 2 → (x == 1) ≡ (y == 1) → x ≡ y
same_bit zero zero x_low y_low same = refl
same_bit zero (suc zero) x_low y_low same = absurd (cc)
same_bit (suc zero) zero x_low y_low same = absurd (cc)
same_bit (suc zero) (suc zero) x_low y_low same = refl
same_bit (suc (suc x)) y x_low y_low same = absurd (omega arith)
same_bit x (suc (suc y)) x_low y_low same = absurd (omega arith)

-- where no bit differs in a rectangle, its cells keep their numbers
pub same_numbers : (bits : ℕ) (rect : Rect) (a b : Numbering) → bits ≡ 0
    → ((k : ℕ) → (bit_at bits k ≡ 1) ↔ DiffersIn k rect a b)
    → (cell : Cell) → IsInRect rect cell → number_of a cell ≡ number_of b cell
same_numbers bits rect a b none means cell inside =
    let x = number_of a cell in
    let y = number_of b cell in
    same_from_bits x y (λ k. same_bit (bit_at x k) (bit_at y k) (bit_at-lt x k) (bit_at-lt y k)
    (same_unless (has_class k x) (has_class k y) (λ apart.
    let set : bit_at bits k ≡ 1 = (means k).1 (record { cell = cell; inside = inside; apart = apart }) in
    let clear : bit_at bits k ≡ 0 = ap (λ n. bit_at n k) none ∙ bit_at-zero k in
    absurd (omega (arith, set, clear)))))

-- a chunk's cells lie in the map
pub chunk_in_map : (size : Size) (chunk : Chunk) → IsChunkInside size chunk → IsRectInside size (chunk_rect size chunk)
chunk_in_map size chunk lies =
    let column = lies.column in let row = lies.row in
    let wide = size.wide.some in let high = size.high.some in
    record { columns = omega arith; rows = omega arith; last_column = omega arith; last_row = omega arith }

-- a part of a rectangle of the map lies in the map
pub part_in_map : (size : Size) (rect part : Rect) → IsPartOf rect part → IsRectInside size rect → IsRectInside size part
part_in_map size rect part within whole =
    let east = within.last.east in let north = within.last.north in
    let last_column = whole.last_column in let last_row = whole.last_row in
    record { columns = within.columns; rows = within.rows; last_column = omega arith; last_row = omega arith }

-- the numbers of painted chunks are those of the chunks' cells
pub extents_of : (map : Map) (standing : Standing) (all : List Numbering) → ArePaintedChunks map standing all
    → AreChunksOf map.size all
extents_of map standing all painted =
    AreOfChunks-weaker map.size (chunk_count map.size) (IsPaintedChunk map standing)
    (λ (chunk : Chunk) (cells : Numbering). cells.rect ≡ chunk_rect map.size chunk) all
    (λ chunk cells is. is.extent) painted

-- a cell that has one number in the chunks at a place
pub same_at : (before now : List Numbering) (place : ℕ) (cell : Cell) (a b : Numbering) → slice_get before place ≡ Some a
    → slice_get now place ≡ Some b → number_of a cell ≡ number_of b cell → IsSameAt before now place cell
same_at before now place cell a b at_a at_b same = λ x y at_x at_y.
    ap (λ (n : Numbering). number_of n cell) (same_Some x a (sym at_x ∙ at_a)) ∙ same
    ∙ ap (λ (n : Numbering). number_of n cell) (same_Some b y (sym at_b ∙ at_y))

-- ---- cells that no changed part holds

-- no cell is passable for a class that the map does not have
passable_unknown : (map : Map) (standing : Standing) (k : ℕ) (cell : Cell) → length map.classes ≤ k
    → passable_at map standing k cell ≡ false
passable_unknown map standing k cell past =
    false_from_ne_true (passable_at map standing k cell) (λ yes.
    let low : k < length map.classes = ((passable_in_words map standing k cell).0 yes).class in absurd (omega arith))

-- a cell that is blocked before exactly where it is now is passable before exactly where it is now
passable_same : (map : Map) (old new : Standing) (rects : List Rect) (k : ℕ) (cell : Cell)
    → CoverChanges map old new rects → k < length map.classes → IsInside map.size cell
    → IsFalse (is_in_some rects cell) → passable_at map old k cell ≡ passable_at map new k cell
passable_same map old new rects k cell covers known inside out =
    passable-inside map old k cell known inside
    ∙ ap (λ b. not (has_base map k cell || b)) (covers.same k cell inside out)
    ∙ sym (passable-inside map new k cell known inside)

-- the rectangles that cover what edits change hold each cell that is passable before and not now, or now and not before
pub covers_passable : (map : Map) (old new : Standing) (bits : List ℕ) (reached : Reached) → CoverChanges map old new reached.rects
    → reached.size ≡ map.size → (k : ℕ) → k < length map.classes
    → AreChanges (passable_at map old k) (passable_at map new k) map.size k bits
    → CoverPassable (passable_at map old k) (passable_at map new k) map.size reached
covers_passable map old new bits reached covers sized k known change = record {
  sized = sized;
  same = λ cell out.
      let before = passable_at map old k in
      let now = passable_at map new k in
      same_unless (before cell) (now cell) (λ apart.
      apart (passable_same map old new reached.rects k cell covers known
      (differing_inside before now map.size change.before_inside change.now_inside cell apart) out));
}

-- a chunk whose bit is clear has the same passable cells
agrees_unmarked : (before now : Cell → Bool) (map : Map) (k : ℕ) (bits : List ℕ) (cell : Cell)
    → AreChanges before now map.size k bits → IsInside map.size cell
    → IsFalse (has_class k (get_or bits (chunk_place map.size (chunk_of cell)) 0)) → before cell ≡ now cell
agrees_unmarked before now map k bits cell changes inside unmarked =
    let size = map.size in
    let chunk_in = chunk_inside size cell inside in
    let place : ℕ = chunk_place size (chunk_of cell) in
    let set : ℕ = get_or bits place 0 in
    let each = changes.marks.each in
    let low : place < length bits =
    omega (arith, each, length-map bits (has_class k), place_below size (chunk_of cell) chunk_in) in
    let at : slice_get (each_of (has_class k) bits) place ≡ Some (has_class k set) =
    slice_get-map (has_class k) bits place
    ∙ ap (λ o. option_map (has_class k) o) (slice_get-get_or bits place 0 low) in
    unmarked_agrees before now size k bits place (has_class k set) changes at unmarked cell
    (sym (numbered-place size (chunk_of cell) chunk_in))

-- a cell with one number before and now is passable before exactly where it is now
same_passable : (map : Map) (old new : Standing) (earlier later : List Numbering) → ArePaintedChunks map old earlier
    → ArePaintedChunks map new later → (k : ℕ) (cell : Cell) → k < length map.classes → IsInside map.size cell
    → IsSameAt earlier later (chunk_place map.size (chunk_of cell)) cell
    → passable_at map old k cell ≡ passable_at map new k cell
same_passable map old new earlier later were are k cell known inside same =
    let size = map.size in
    let chunk = chunk_of cell in
    let chunk_in = chunk_inside size cell inside in
    let low = place_below size chunk chunk_in in
    let a = item_at size (chunk_count size) (IsPaintedChunk map old) earlier were (chunk_place size chunk) low in
    let b = item_at size (chunk_count size) (IsPaintedChunk map new) later are (chunk_place size chunk) low in
    let lies = own_rect map old cell inside in
    sym (chunk-passes map old chunk a.0 k cell
    (AreOfChunks-at size (chunk_count size) (IsPaintedChunk map old) earlier chunk a.0 were chunk_in a.1) known lies)
    ∙ ap (λ n. not (has_class k n)) (same a.0 b.0 a.1 b.1)
    ∙ chunk-passes map new chunk b.0 k cell
    (AreOfChunks-at size (chunk_count size) (IsPaintedChunk map new) later chunk b.0 are chunk_in b.1) known lies

pub kept_same : (map : Map) (old new : Standing) (earlier later : List Numbering) (rects : List Rect) (bits : List ℕ)
    (parts : List ChangedPart) → ArePaintedChunks map old earlier → ArePaintedChunks map new later
    → CoverChanges map old new rects
    → ((k : ℕ) → k < length map.classes → AreChanges (passable_at map old k) (passable_at map new k) map.size k bits)
    → ((k : ℕ) (cell : Cell) → IsKept parts k cell → IsInside map.size cell → IsTrue (is_in_some rects cell)
    → IsFalse (has_class k (get_or bits (chunk_place map.size (chunk_of cell)) 0))
    ⊎ IsSameAt earlier later (chunk_place map.size (chunk_of cell)) cell)
    → (k : ℕ) (cell : Cell) → IsKept parts k cell → passable_at map old k cell ≡ passable_at map new k cell
kept_same map old new earlier later rects bits parts were are covers changes held k cell kept =
    elim (cases_lt k (length map.classes)) [
      | inl known ↦
          let before = passable_at map old k in
          let now = passable_at map new k in
          let change = changes k known in
          same_unless (before cell) (now cell) (λ apart.
          let inside = differing_inside before now map.size change.before_inside change.now_inside cell apart in
          apart (⊎_elim
          (λ (reached : is_in_some rects cell ≡ true). elim (held k cell kept inside reached) [
            | inl clear ↦ agrees_unmarked before now map k bits cell change inside clear
            | inr same ↦ same_passable map old new earlier later were are k cell known inside same
          ])
          (λ (out : is_in_some rects cell ≡ false). passable_same map old new rects k cell covers known inside out)
          (cases_Bool (is_in_some rects cell))))
      | inr unknown ↦ passable_unknown map old k cell unknown ∙ sym (passable_unknown map new k cell unknown)
    ]
