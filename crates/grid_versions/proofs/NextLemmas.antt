-- The numbers of a chunk after edits: what is painted anew, and what stays.
use Rattle.std.proofs.Common.{◌≡◌, ◌↔◌, ℕ, ◌*◌, ◌≤◌, true, false, ◌||◌, List, IsTrue, IsFalse, length}
use Rattle.std.proofs.Common.{sym, ap, subst, ◌∙◌, ⊎_elim, arith}
use Rattle.std.specs.Int.{bit_at}
use Rattle.std.proofs.lemmas.Nat.Bits.{bit_at-zero}
use Rattle.std.proofs.lemmas.Bool.{cases_Bool, both_ways, false_from_ne_true}
use Rattle.nav_types.specs.declared.cells.Cell.{Cell}
use Rattle.nav_types.specs.declared.cells.Chunk.{Chunk}
use Rattle.nav_types.specs.declared.cells.Rect.{Rect}
use Rattle.nav_types.specs.Cells.{IsInRect}
use Rattle.nav_types.specs.Numbering.{Numbering, columns, rows, number_of}
use Rattle.lane_rows.specs.Rows.{has_class}
use Rattle.navcell_grid.specs.Patches.{DiffersIn}
use Rattle.nav_types.specs.Rects.{IsPartOf}
use Rattle.clearance_raster.proofs.Rastering.{in_whole}
use Rattle.obstruction_store.specs.Standing.{Standing}
use Rattle.posts.specs.Maps.{Map}
use Rattle.grid_versions.specs.Passing.{is_in_rect, has_base, is_blocked}
use Rattle.grid_versions.specs.inner.Painting.{is_covered, IsPaintedChunk}
use Rattle.grid_versions.specs.inner.Reaching.{is_in_some, CoverChanges}
use Rattle.grid_versions.proofs.PassingLemmas.{in_rect_from, in_rect_to}
use Rattle.grid_versions.proofs.VersionLemmas.{rect_inside}
use Rattle.grid_versions.proofs.ChangeLemmas.{same_unless}

-- a cell lies in the rectangle or not
rect_cases : {P : Type 0} (rect : Rect) (cell : Cell) → (IsInRect rect cell → P) → (¬ IsInRect rect cell → P) → P
rect_cases rect cell here out = ⊎_elim
    (λ (is : is_in_rect rect cell ≡ true). here (in_rect_from rect cell is))
    (λ (is : is_in_rect rect cell ≡ false).
    out (λ inside. both_ways (is_in_rect rect cell) is (in_rect_to rect cell inside)))
    (cases_Bool (is_in_rect rect cell))

-- numbers that have the right bits at each cell are painted
module _ (map : Map) (earlier now : Standing) (rects : List Rect)
    (covers : CoverChanges map earlier now rects) (chunk : Chunk)
    (old : Numbering) (was : IsPaintedChunk map earlier chunk old) where
  -- a bit that no rectangle of changes reaches is right
  old_bit : (k : ℕ) (cell : Cell) → IsInRect old.rect cell → IsFalse (is_in_some rects cell)
      → has_class k (number_of old cell) ≡ (has_base map k cell || is_blocked map now k cell)
  old_bit k cell inside out =
      was.bits k cell inside
      ∙ ap (λ b. has_base map k cell || b) (covers.same k cell
      (rect_inside map earlier map.size chunk cell (subst (λ (r : Rect). IsInRect r cell) was.extent inside)) out)

  -- a chunk that no rectangle of changes reaches
  pub chunk_stays : ((cell : Cell) → IsInRect old.rect cell → ¬ IsTrue (is_in_some rects cell))
      → IsPaintedChunk map now chunk old
  chunk_stays none = record {
    extent = was.extent;
    whole = was.whole;
    bits = λ k cell inside. old_bit k cell inside (false_from_ne_true (is_in_some rects cell) (none cell inside));
  }

  module _ (part : Rect) (patch : Numbering) (within : IsPartOf old.rect part)
      (held : (cell : Cell) → IsInRect old.rect cell → IsTrue (is_in_some rects cell) → IsInRect part cell)
      (same_rect : patch.rect ≡ old.rect) (whole : length patch.numbers ≡ columns patch.rect * rows patch.rect)
      (bits : (k : ℕ) (cell : Cell) → IsInRect part cell
      → has_class k (number_of patch cell) ≡ is_covered map now k cell)
      (others : (cell : Cell) → IsInRect old.rect cell → ¬ IsInRect part cell
      → number_of patch cell ≡ number_of old cell) where
    -- a chunk whose part is painted anew
    pub chunk_repainted : IsPaintedChunk map now chunk patch
    chunk_repainted = record {
      extent = same_rect ∙ was.extent;
      whole = whole;
      bits = λ k cell inside.
          let in_old = subst (λ (r : Rect). IsInRect r cell) same_rect inside in
          rect_cases part cell
          (λ here. bits k cell here)
          (λ out. ap (λ n. has_class k n) (others cell in_old out)
          ∙ old_bit k cell in_old (false_from_ne_true (is_in_some rects cell) (λ is. out (held cell in_old is))));
    }

    -- it differs where its part does
    pub differs_in_part : (k set : ℕ) → (bit_at set k ≡ 1) ↔ DiffersIn k part old patch
        → (bit_at set k ≡ 1) ↔ DiffersIn k patch.rect old patch
    differs_in_part k set means = (
      λ is.
          let differs = means.0 is in
          record {
            cell = differs.cell;
            inside = subst (λ (r : Rect). IsInRect r differs.cell) (sym same_rect)
                (in_whole old.rect part differs.cell within differs.inside);
            apart = differs.apart;
          },
      λ differs. means.1 (record {
        cell = differs.cell;
        inside = rect_cases part differs.cell (λ here. here) (λ out. absurd (differs.apart
            (ap (λ n. has_class k n) (sym (others differs.cell
            (subst (λ (r : Rect). IsInRect r differs.cell) same_rect differs.inside) out)))));
        apart = differs.apart;
      }),
    )

    -- where no bit differs, the old numbers are painted, too
    pub chunk_kept : ((k : ℕ) → (bit_at 0 k ≡ 1) ↔ DiffersIn k part old patch) → IsPaintedChunk map now chunk old
    chunk_kept means = record {
      extent = was.extent;
      whole = was.whole;
      bits = λ k cell inside.
          rect_cases part cell
          (λ here. same_unless (has_class k (number_of old cell)) (has_class k (number_of patch cell)) (λ apart.
          let none = bit_at-zero k in
          let set : bit_at 0 k ≡ 1 = (means k).1 (record { cell = cell; inside = here; apart = apart }) in
          absurd (omega arith)))
          (λ out. ap (λ n. has_class k n) (sym (others cell inside out)))
          ∙ chunk_repainted.bits k cell (subst (λ (r : Rect). IsInRect r cell) (sym same_rect) inside);
    }

-- a rectangle is a part of itself
pub whole_part : (rect : Rect) → rect.i0 ≤ rect.i1 → rect.j0 ≤ rect.j1 → IsPartOf rect rect
whole_part rect columns rows = record {
  first = record { west = omega arith; east = columns; south = omega arith; north = rows };
  last = record { west = columns; east = omega arith; south = rows; north = omega arith };
  columns = columns;
  rows = rows;
}
