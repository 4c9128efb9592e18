-- Lines in which some places have changed.
use Rattle.std.proofs.Common.{false, ◌++◌, take, IsTrue, Result, Ok, Err, OnOk, ◌≡◌, ℕ, ◌+◌, ◌/◌, ◌<◌, ◌≤◌, Bool, List, [], ◌∷◌, length, get_or, map, sym, ap, ◌∙◌, subst, inl, inr, arith}
use Rattle.std.proofs.lemmas.Bool.{cases_lt, false≢true}
use Rattle.std.specs.Prelude.{All}
use Rattle.std.proofs.lemmas.List.{length-map, get_or-map}
use Rattle.std.proofs.lemmas.List.Elements.{All-more, All-push}
use Rattle.nav_types.specs.declared.cells.Cell.{Cell}
use Rattle.nav_types.specs.declared.cells.Rect.{Rect}
use Rattle.nav_types.specs.declared.cells.Size.{Size}
use Rattle.nav_types.specs.Cells.{IsInside, IsInRect, IsRectInside, cell_at}
use Rattle.nav_types.proofs.Items.{all_front, all_last}
use Rattle.lane_rows.specs.Rows.{has_class, one_if}
use Rattle.class_planes.specs.declared.changed_parts.ChangedPart.{ChangedPart}
use Rattle.class_planes.specs.Planes.{PlaneCells, is_passable, IsOutside, IsKept}
use Rattle.class_planes.specs.inner.Lines.{LineTable, RowTable, IsBand, AreLines, AreLinesBefore, AreRows, AreColumns, AreColumnsBefore, free_cell, plane_of}
use Rattle.class_planes.proofs.PlaneLemmas.{free_passable, rows_free}

-- a cell lies in the rectangle or not
pub in_rect_or_not : {P : Type 0} (rect : Rect) (cell : Cell) → (IsInRect rect cell → P)
    → ((IsInRect rect cell → ⊥) → P) → P
in_rect_or_not rect cell here out = elim (cases_lt cell.i rect.i0) [
  | inl west ↦ out (λ inside. let most : rect.i0 ≤ cell.i = inside.west in omega arith)
  | inr from_west ↦ elim (cases_lt rect.i1 cell.i) [
    | inl east ↦ out (λ inside. let most : cell.i ≤ rect.i1 = inside.east in omega arith)
    | inr to_east ↦ elim (cases_lt cell.j rect.j0) [
      | inl south ↦ out (λ inside. let most : rect.j0 ≤ cell.j = inside.south in omega arith)
      | inr from_south ↦ elim (cases_lt rect.j1 cell.j) [
        | inl north ↦ out (λ inside. let most : cell.j ≤ rect.j1 = inside.north in omega arith)
        | inr to_north ↦ here (record { west = from_west; east = to_east; south = from_south; north = to_north })
      ]
    ]
  ]
]

-- a band that no rectangle meets
pub band_stays : (earlier free : ℕ → ℕ → Bool) (rects : List Rect) (first words : ℕ) (band : List ℕ)
    → IsBand earlier first words 32 band
    → ((n i : ℕ) → IsOutside rects (cell_at i n) → earlier n i ≡ free n i)
    → ((n i : ℕ) → first ≤ n → n < first + 32 → IsOutside rects (cell_at i n))
    → IsBand free first words 32 band
band_stays earlier free rects first words band is same outside = record {
  long = is.long;
  each = λ k below i. is.each k below i ∙ ap one_if (same (first + k) i (outside (first + k) i (omega arith) (omega arith)));
}

-- ---- calls that may fail

pub both_ok : {T E A B C : Type 0} (r : Result T E) → OnOk r A → OnOk r B → (A → B → C) → OnOk r C
both_ok (Ok v) a b both = both a b
both_ok (Err e) a b both = tt

-- ---- lists of rectangles

-- a part that has changed for the class is listed
pub kept_listed : (parts : List ChangedPart) (class i : ℕ) (d : ChangedPart) (old new : List Rect) → i < length parts
    → new ≡ old ++ (get_or parts i d).rect ∷ []
    → ((cell : Cell) → IsOutside old cell → IsKept (take i parts) class cell)
    → (cell : Cell) → IsOutside new cell → IsKept (take (i + 1) parts) class cell
kept_listed parts class i d old new below is so_far cell out =
    let rect = (get_or parts i d).rect in
    let outside : IsOutside (old ++ rect ∷ []) cell = subst (λ (rs : List Rect). IsOutside rs cell) is out in
    All-more (λ (part : ChangedPart). IsTrue (has_class class part.classes) → IsInRect part.rect cell → ⊥) parts i d below
    (so_far cell (all_front (λ (r : Rect). IsInRect r cell → ⊥) old rect outside))
    (λ of inside. all_last (λ (r : Rect). IsInRect r cell → ⊥) old rect outside inside)

-- one that has not is passed over
pub kept_passed : (parts : List ChangedPart) (class i : ℕ) (d : ChangedPart) (old new : List Rect) → i < length parts
    → new ≡ old → has_class class (get_or parts i d).classes ≡ false
    → ((cell : Cell) → IsOutside old cell → IsKept (take i parts) class cell)
    → (cell : Cell) → IsOutside new cell → IsKept (take (i + 1) parts) class cell
kept_passed parts class i d old new below is not_of so_far cell out =
    All-more (λ (part : ChangedPart). IsTrue (has_class class part.classes) → IsInRect part.rect cell → ⊥) parts i d below
    (so_far cell (subst (λ (rs : List Rect). IsOutside rs cell) is out))
    (λ of inside. absurd (false≢true (sym not_of ∙ of)))

-- the rectangles of parts that lie in the map do so too
pub inside_listed : (parts : List ChangedPart) (i : ℕ) (d : ChangedPart) (old new : List Rect) → i < length parts
    → new ≡ old ++ (get_or parts i d).rect ∷ []
    → ((size : Size) → All (λ (part : ChangedPart). IsRectInside size part.rect) parts → All (IsRectInside size) old)
    → (size : Size) → All (λ (part : ChangedPart). IsRectInside size part.rect) parts → All (IsRectInside size) new
inside_listed parts i d old new below is so_far size all =
    subst (All (IsRectInside size)) (sym is)
    (All-push (IsRectInside size) old (get_or parts i d).rect (so_far size all) (all i d below))

-- ---- the lines of a plane before a change

pub rows_before : (table : RowTable) (plane : PlaneCells) (size : Size) (passes : Cell → Bool) (Kept : Cell → Type 0)
    → plane_of table ≡ plane → table.size ≡ size → AreRows table
    → ((cell : Cell) → Kept cell → is_passable plane cell ≡ passes cell)
    → AreLinesBefore (λ j i. passes (cell_at i j)) Kept (size.h / 32 + 1) (size.w / 64 + 1) table.rows
rows_before table plane size passes Kept is extent are same =
    subst (λ (s : Size). AreLinesBefore (λ j i. passes (cell_at i j)) Kept (s.h / 32 + 1) (s.w / 64 + 1) table.rows) extent
    (record {
      earlier = λ j i. free_cell table (cell_at i j);
      lines = are;
      same = λ n i kept. free_passable table plane is (cell_at i n) ∙ same (cell_at i n) kept;
    })

pub cells_same : (table : RowTable) (plane : PlaneCells) (size : Size) (passes : Cell → Bool) (rects : List Rect)
    (rows : LineTable) → plane_of table ≡ plane → table.size ≡ size
    → ((cell : Cell) → IsTrue (passes cell) → IsInside size cell)
    → AreLines (λ j i. passes (cell_at i j)) (size.h / 32 + 1) (size.w / 64 + 1) rows
    → ((cell : Cell) → IsOutside rects cell → is_passable plane cell ≡ passes cell)
    → (cell : Cell) → IsOutside rects cell
    → free_cell table cell ≡ free_cell (record { size = table.size; rows = rows }) cell
cells_same table plane size passes rects rows is extent within are same cell out =
    free_passable table plane is cell ∙ same cell out
    ∙ sym (ap (λ (s : Size). free_cell (record { size = s; rows = rows }) cell) extent
    ∙ rows_free size rows passes within are cell)

pub columns_were : (table : RowTable) (plane : PlaneCells) (size : Size) (passes : Cell → Bool) (rects : List Rect)
    (rows columns : LineTable) → plane_of table ≡ plane → table.size ≡ size
    → ((cell : Cell) → IsTrue (passes cell) → IsInside size cell)
    → AreLines (λ j i. passes (cell_at i j)) (size.h / 32 + 1) (size.w / 64 + 1) rows → AreColumns table columns
    → ((cell : Cell) → IsOutside rects cell → is_passable plane cell ≡ passes cell)
    → AreColumnsBefore (record { size = table.size; rows = rows }) rects columns
columns_were table plane size passes rects rows columns is extent within are columns_are same = record {
  earlier = λ i j. free_cell table (cell_at i j);
  lines = columns_are;
  same = cells_same table plane size passes rects rows is extent within are same;
}

-- ---- the rectangles of all parts

rect_at : (parts : List ChangedPart) (k : ℕ) (part : ChangedPart) (rect : Rect) → k < length parts
    → get_or (map (λ (p : ChangedPart). p.rect) parts) k rect ≡ (get_or parts k part).rect
rect_at parts k part rect below = get_or-map (λ (p : ChangedPart). p.rect) parts k part rect below

pub rects_inside : (size : Size) (parts : List ChangedPart) (rects : List Rect)
    → rects ≡ map (λ (p : ChangedPart). p.rect) parts
    → All (λ (part : ChangedPart). IsRectInside size part.rect) parts → All (IsRectInside size) rects
rects_inside size parts rects is all =
    subst (All (IsRectInside size)) (sym is) (λ k d below.
    let part : ChangedPart = record { rect = d; classes = 0 } in
    let there : k < length parts = omega (arith, below, length-map parts (λ (p : ChangedPart). p.rect)) in
    subst (IsRectInside size) (sym (rect_at parts k part d there)) (all k part there))

-- a cell outside of all of them is kept for every class
pub kept_outside : (parts : List ChangedPart) (rects : List Rect) (class : ℕ) (cell : Cell)
    → rects ≡ map (λ (p : ChangedPart). p.rect) parts → IsOutside rects cell → IsKept parts class cell
kept_outside parts rects class cell is out k part below of inside =
    let all : IsOutside (map (λ (p : ChangedPart). p.rect) parts) cell =
    subst (λ (rs : List Rect). IsOutside rs cell) is out in
    all k part.rect (omega (arith, below, length-map parts (λ (p : ChangedPart). p.rect)))
    (subst (λ (r : Rect). IsInRect r cell) (sym (rect_at parts k part part.rect below)) inside)
