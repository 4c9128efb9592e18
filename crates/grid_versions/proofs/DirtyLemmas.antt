-- Items that are made anew at the parts of chunks, one part after another.
use Rattle.std.proofs.Common.{ℕ, ◌≡◌, ◌↔◌, ◌+◌, ◌*◌, ◌/◌, ◌%◌, ◌<◌, ◌≤◌, ◌⊎◌, ◌||◌, Bool, false, List, [], ◌∷◌, length, set, get_or, replicate, take, ap, sym, subst, ◌∙◌, inl, inr, arith, Some}
use Rattle.std.specs.Int.{bit_at}
use Rattle.std.specs.List.{slice_get, Contains}
use Rattle.std.proofs.lemmas.Bool.{cases_eq, cases_lt, or_cases}
use Rattle.std.proofs.lemmas.List.{get_or_default, get_or-replicate, length-replicate, take_more}
use Rattle.std.proofs.lemmas.List.Folds.{list_any-append}
use Rattle.std.proofs.lemmas.Nat.{div-add-mod'}
use Rattle.std.proofs.lemmas.Nat.Bits.{bit_at-zero}
use Rattle.std.proofs.lemmas.Option.{same_Some, slice_get_within, get_or_from_slice_get}
use Rattle.nav_types.specs.declared.cells.Cell.{Cell}
use Rattle.nav_types.specs.declared.cells.Chunk.{Chunk}
use Rattle.nav_types.specs.declared.cells.Rect.{Rect}
use Rattle.nav_types.specs.declared.cells.Size.{Size}
use Rattle.nav_types.specs.Cells.{IsInRect}
use Rattle.nav_types.specs.Numbering.{Numbering, number_of}
use Rattle.nav_types.specs.Rects.{chunk_rect}
use Rattle.lane_rows.specs.Rows.{has_class}
use Rattle.navcell_grid.specs.Patches.{DiffersIn}
use Rattle.grid_versions.specs.declared.dirty_parts.DirtyPart.{DirtyPart}
use Rattle.grid_versions.specs.Chunks.{chunk_columns}
use Rattle.grid_versions.specs.inner.ChunkLists.{chunk_numbered, AreOfChunks}
use Rattle.grid_versions.specs.inner.ReachedParts.{AreReachedParts, HasPart, IsReachedPart, IsUnreached, Misses}
use Rattle.grid_versions.specs.inner.Reaching.{is_in_some}
use Rattle.grid_versions.specs.Passing.{is_in_rect}
use Rattle.grid_versions.proofs.PassingLemmas.{in_rect_from}
use Rattle.grid_versions.proofs.ChunkLemmas.{rows_up}
use Rattle.grid_versions.proofs.RemakeLemmas.{set_here, set_elsewhere}
use Rattle.grid_versions.proofs.VersionLemmas.{AreCompared}

-- ---- the parts that are left

abbrev pub no_part : DirtyPart
no_part = record { place = 0; rect = record { i0 = 0; j0 = 0; i1 = 0; j1 = 0 } }

-- the part at a place of the list
abbrev pub part_of : List DirtyPart → ℕ → DirtyPart
part_of parts at = get_or parts at no_part

pub part_listed : (parts : List DirtyPart) (at : ℕ) → at < length parts → Contains parts (part_of parts at)
part_listed parts at low = (at, low, get_or_default parts at (part_of parts at) no_part low)

pub reached_part : (size other : Size) (rects : List Rect) (parts : List DirtyPart) (at : ℕ) → other ≡ size
    → AreReachedParts other rects parts → at < length parts → IsReachedPart size rects (part_of parts at)
reached_part size other rects parts at same are low =
    subst (λ (s : Size). IsReachedPart s rects (part_of parts at)) same
    (are.each (part_of parts at) (part_listed parts at low))

-- one of the parts from `first` on is of the chunk at the place
pub record IsLeft (parts : List DirtyPart) (first place : ℕ) : Type 0 where
  pub at : ℕ
  pub late : first ≤ at
  pub within : at < length parts
  pub of : (part_of parts at).place ≡ place

pub left_first : (parts : List DirtyPart) (place : ℕ) → HasPart parts place → IsLeft parts 0 place
left_first parts place has =
    let at : ℕ = has.listed.0 in
    let within = has.listed.1 in
    let same : part_of parts at ≡ has.part = get_or_default parts at no_part has.part within ∙ has.listed.2 in
    record { at = at; late = omega arith; within = within; of = ap (λ (part : DirtyPart). part.place) same ∙ has.of }

pub left_next : (parts : List DirtyPart) (first place : ℕ) → IsLeft parts first place
    → ((part_of parts first).place ≡ place) ⊎ IsLeft parts (first + 1) place
left_next parts first place left =
    let late = left.late in
    elim (cases_lt first left.at) [
      | inl later ↦ inr (record { at = left.at; late = omega arith; within = left.within; of = left.of })
      | inr here ↦
          let same : first ≡ left.at = omega arith in
          inl (ap (λ (k : ℕ). (part_of parts k).place) same ∙ left.of)
    ]

pub left_none : (parts : List DirtyPart) (first place : ℕ) → length parts ≤ first → IsLeft parts first place → ⊥
left_none parts first place past left =
    let late = left.late in let within = left.within in absurd (omega (arith, past, late, within))

-- ---- items made anew

-- each item is as said, or a part of its chunk is left
pub record AreMade {A : Type 0} (Is : ℕ → A → Type 0) (parts : List DirtyPart) (first : ℕ) (items : List A) : Type 0 where
  pub are : (place : ℕ) (item : A) → slice_get items place ≡ Some item → Is place item ⊎ IsLeft parts first place

pub made_more : {A : Type 0} (Is : ℕ → A → Type 0) (parts : List DirtyPart) (first place : ℕ) (before after : List A) (made : A)
    → place ≡ (part_of parts first).place → place < length before → after ≡ set before place made → Is place made
    → AreMade Is parts first before → AreMade Is parts (first + 1) after
made_more {A} Is parts first place before after made of low set_is own so_far = record {
  are = λ k item at.
      let there : slice_get (set before place made) k ≡ Some item = ap (λ (xs : List A). slice_get xs k) (sym set_is) ∙ at in
      elim (cases_eq k place) [
        | inl same ↦
            let here : slice_get (set before place made) place ≡ Some item =
            ap (λ (n : ℕ). slice_get (set before place made) n) (sym same) ∙ there in
            inl (subst (λ (n : ℕ). Is n item) (sym same)
            (subst (λ (x : A). Is place x) (set_here before place made item low here) own))
        | inr apart ↦ elim (so_far.are k item (set_elsewhere before place k made item apart there)) [
          | inl is ↦ inl is
          | inr left ↦ elim (left_next parts first k left) [
            | inl here ↦ absurd (apart (sym here ∙ sym of))
            | inr later ↦ inr later
          ]
        ]
      ];
}

pub all_made : {A : Type 0} (size : Size) (count : ℕ) (Is : Chunk → A → Type 0) (parts : List DirtyPart) (first : ℕ) (items : List A)
    → length items ≡ count → length parts ≤ first → AreMade (λ place item. Is (chunk_numbered size place) item) parts first items
    → AreOfChunks size count Is items
all_made size count Is parts first items long past made = record {
  each = long;
  are = λ place item at. elim (made.are place item at) [
    | inl is ↦ is
    | inr left ↦ absurd (left_none parts first place past left)
  ];
}

-- ---- numbers compared

-- nothing differs from itself
pub compared_first : (before : List Numbering) (count : ℕ) → AreCompared before before (replicate count 0)
compared_first before count place a b bits at_a at_b at k =
    let same : a ≡ b = same_Some a b (sym at_a ∙ at_b) in
    let low : place < count = omega (arith, slice_get_within (replicate count 0) place bits at, length-replicate {A = ℕ} count 0) in
    let none : bits ≡ 0 = sym (get_or_from_slice_get (replicate count 0) place bits bits at)
    ∙ get_or-replicate count place 0 bits low in
    let clear : bit_at bits k ≡ 0 = ap (λ (n : ℕ). bit_at n k) none ∙ bit_at-zero k in (
      λ set. absurd (omega (arith, clear, set)),
      λ differs. absurd (differs.apart (ap (λ (n : Numbering). has_class k (number_of n differs.cell)) same)),
    )

-- one chunk anew
pub compared_set : (before now after : List Numbering) (bits more : List ℕ) (place own : ℕ) (b : Numbering)
    → place < length now → place < length bits → after ≡ set now place b → more ≡ set bits place own
    → ((a : Numbering) → slice_get before place ≡ Some a → (k : ℕ) → (bit_at own k ≡ 1) ↔ DiffersIn k b.rect a b)
    → AreCompared before now bits → AreCompared before after more
compared_set before now after bits more place own b low low_bits after_is more_is is so_far at c d other at_c at_d at_other k =
    let there : slice_get (set now place b) at ≡ Some d = ap (λ (xs : List Numbering). slice_get xs at) (sym after_is) ∙ at_d in
    let those : slice_get (set bits place own) at ≡ Some other = ap (λ (xs : List ℕ). slice_get xs at) (sym more_is) ∙ at_other in
    elim (cases_eq at place) [
      | inl same ↦
          let b_is : b ≡ d = set_here now place b d low (ap (λ (n : ℕ). slice_get (set now place b) n) (sym same) ∙ there) in
          let own_is : own ≡ other =
          set_here bits place own other low_bits (ap (λ (n : ℕ). slice_get (set bits place own) n) (sym same) ∙ those) in
          subst (λ (s : ℕ). (bit_at s k ≡ 1) ↔ DiffersIn k d.rect c d) own_is
          (subst (λ (y : Numbering). (bit_at own k ≡ 1) ↔ DiffersIn k y.rect c y) b_is
          (is c (ap (λ (n : ℕ). slice_get before n) (sym same) ∙ at_c) k))
      | inr apart ↦
          so_far at c d other at_c (set_elsewhere now place at b d apart there) (set_elsewhere bits place at own other apart those) k
    ]

-- ---- the chunks of a rectangle

-- a chunk that has a cell of the rectangle lies between the places of its corners' chunks
pub places_between : (size : Size) (reach : Rect) (place : ℕ) (cell : Cell)
    → IsInRect (chunk_rect size (chunk_numbered size place)) cell → IsInRect reach cell
    → (reach.j0 / 96 * chunk_columns size + reach.i0 / 96 ≤ place)
    × (place ≤ reach.j1 / 96 * chunk_columns size + reach.i1 / 96)
places_between size reach place cell inside held =
    let columns = chunk_columns size in
    let is : place / columns * columns + place % columns ≡ place = div-add-mod' place columns in
    let west = inside.west in let east = inside.east in let south = inside.south in let north = inside.north in
    let left = held.west in let right = held.east in let below = held.south in let above = held.north in
    let low : reach.j0 / 96 ≤ place / columns = omega (arith, south, north, below) in
    let high : place / columns ≤ reach.j1 / 96 = omega (arith, south, above) in
    let near : reach.i0 / 96 ≤ place % columns = omega (arith, west, east, left) in
    let far : place % columns ≤ reach.i1 / 96 = omega (arith, west, right) in
    let from = rows_up (reach.j0 / 96) (place / columns) columns low in
    let to = rows_up (place / columns) (reach.j1 / 96) columns high in
    (omega (arith, is, near, from), omega (arith, is, far, to))

-- no rectangle reaches a chunk
pub unreached_none : (size : Size) (place : ℕ) → IsUnreached size [] place
unreached_none size place = record { inside = tt; held = λ cell inside is. absurd (cc) }

-- and none does where one more misses it
pub unreached_more : (size : Size) (reaches : List Rect) (at place : ℕ) → at < length reaches
    → IsUnreached size (take at reaches) place → Misses size (get_or reaches at no_part.rect) place
    → IsUnreached size (take (at + 1) reaches) place
unreached_more size reaches at place low none misses = record {
  inside = tt;
  held = λ cell inside is.
      let reach = get_or reaches at no_part.rect in
      let in_cell : Rect → Bool = λ rect. is_in_rect rect cell in
      let more : is_in_some (take (at + 1) reaches) cell ≡ (is_in_some (take at reaches) cell || is_in_some (reach ∷ []) cell) =
      ap (λ (rects : List Rect). is_in_some rects cell) (take_more reaches at no_part.rect low)
      ∙ list_any-append in_cell (take at reaches) (reach ∷ []) in
      elim (or_cases (is_in_some (take at reaches) cell) (is_in_some (reach ∷ []) cell) (sym more ∙ is)) [
        | inl before ↦ none.held cell inside before
        | inr last ↦ elim (or_cases (is_in_rect reach cell) false last) [
          | inl here ↦ misses cell inside (in_rect_from reach cell here)
          | inr none ↦ absurd (cc)
        ]
      ];
}
