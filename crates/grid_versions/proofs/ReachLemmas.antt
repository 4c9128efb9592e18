-- Rectangles that cover what an edit changes.
use Rattle.std.proofs.Common.{◌≡◌, ◌≢◌, ◌==◌, ℕ, ℤ, Bool, true, false, ◌||◌, cond, List, ◌++◌}
use Rattle.std.proofs.Common.{Option, None, Some, IsSomeAnd}
use Rattle.std.proofs.Common.{[], ◌∷◌, IsFalse, refl, sym, ap, subst, inl, inr, ⊎_elim, ◌∙◌}
use Rattle.std.specs.Prelude.{option_to_list}
use Rattle.std.specs.Cmp.{nat_cmp_total}
use Rattle.std.specs.List.{Contains}
use Rattle.std.specs.FinMap as fin_map
use Rattle.std.proofs.lemmas.Bool.{cases_Bool, cases_eq, both_ways, or_parts, true_from_ne_false, false_from_ne_true}
use Rattle.std.proofs.lemmas.List.Folds.{list_any-append}
use Rattle.std.proofs.lemmas.List.Elements.{Contains-push, Contains-append_left}
use Rattle.std.proofs.Math.Bool.{or-true}
use Rattle.nav_types.specs.declared.cells.Cell.{Cell}
use Rattle.nav_types.specs.declared.cells.Rect.{Rect}
use Rattle.nav_types.specs.Cells.{IsInside, IsInRect}
use Rattle.nav_types.proofs.NumberTies.{apart_at}
use Rattle.obstruction_shapes.specs.declared.shapes.Obstruction.{Obstruction}
use Rattle.obstruction_shapes.specs.Shapes.{moved_to}
use Rattle.clearance_raster.specs.Rasters.{blocks_class}
use Rattle.obstruction_store.specs.Standing.{Standing, with_placed}
use Rattle.obstruction_store.proofs.Listing.{Contains-entries}
use Rattle.posts.specs.declared.edits.Edit.{Edit}
use Rattle.posts.specs.declared.edits.Edit.TheVariants.{Add, Remove, Move}
use Rattle.posts.specs.Maps.{Map}
use Rattle.posts.specs.Edits.{edited_id}
use Rattle.grid_versions.specs.Passing.{is_in_rect, is_blocked}
use Rattle.grid_versions.specs.Fitting.{fits}
use Rattle.grid_versions.specs.Editing.{after_edit}
use Rattle.grid_versions.specs.inner.Reaching.{is_in_some, HoldsReach, CoverChanges, NameChanges}
use Rattle.grid_versions.proofs.EditingLemmas.{after_add, after_remove, after_move}
use Rattle.grid_versions.proofs.PassingLemmas.{in_rect_to, none_meets, any_none}

-- ---- what stands under other numbers

inserted_elsewhere : (standing : Standing) (id n : ℕ) (obstruction : Obstruction) → n ≢ id
    → fin_map.get (fin_map.insert standing id obstruction) n ≡ fin_map.get standing n
inserted_elsewhere standing id n obstruction other =
    fin_map.get-insert nat_cmp_total standing id obstruction n
    ∙ ap (λ b. cond b (Some obstruction) (fin_map.get standing n)) (apart_at n id other)

removed_elsewhere : (standing : Standing) (id n : ℕ) → n ≢ id
    → fin_map.get (fin_map.remove standing id) n ≡ fin_map.get standing n
removed_elsewhere standing id n other =
    fin_map.get-remove nat_cmp_total standing id n
    ∙ ap (λ b. cond b None (fin_map.get standing n)) (apart_at n id other)

placed_elsewhere : (standing : Standing) (id n : ℕ) (x z : ℤ) (found : Option Obstruction) → n ≢ id
    → fin_map.get (with_placed standing id x z found) n ≡ fin_map.get standing n
placed_elsewhere standing id n x z None other = refl
placed_elsewhere standing id n x z (Some found) other = inserted_elsewhere standing id n (record found { shape = moved_to found.shape x z }) other

-- an edit leaves what stands under other numbers
pub edit_elsewhere : (map : Map) (standing : Standing) (edit : Edit) (n : ℕ) → n ≢ edited_id edit
    → fin_map.get (after_edit map standing edit) n ≡ fin_map.get standing n
edit_elsewhere map standing (Add id obstruction) n other =
    after_add (λ (s : Standing). fin_map.get s n ≡ fin_map.get standing n) id standing
    (fin_map.insert standing id obstruction) (fits map.size obstruction.shape) (fin_map.contains_key standing id)
    (fin_map.len standing == 65536) refl (λ fit. inserted_elsewhere standing id n obstruction other)
edit_elsewhere map standing (Remove id) n other =
    after_remove (λ (s : Standing). fin_map.get s n ≡ fin_map.get standing n) id standing
    (fin_map.remove standing id) (fin_map.contains_key standing id) refl (removed_elsewhere standing id n other)
edit_elsewhere map standing (Move id x z) n other =
    after_move (λ (s : Standing). fin_map.get s n ≡ fin_map.get standing n) map standing id x z
    (fin_map.get standing id) refl (λ fit. placed_elsewhere standing id n x z (fin_map.get standing id) other)

-- ---- what is blocked

-- two sets of obstructions that differ under one number alone, where neither blocks the cell
module _ (map : Map) (k : ℕ) (cell : Cell) where
  block_test : ℕ × Obstruction → Bool
  block_test entry = blocks_class entry.1 map.classes k cell

  blocked_still : (before now : Standing) (id : ℕ) → ((n : ℕ) → n ≢ id → fin_map.get now n ≡ fin_map.get before n)
      → ((o : Obstruction) → fin_map.get now id ≡ Some o → blocks_class o map.classes k cell ≡ false)
      → is_blocked map before k cell ≡ false → is_blocked map now k cell ≡ false
  unfolding block_test
  blocked_still before now id others free none =
      any_none block_test (fin_map.entries now) (λ entry listed.
      let stands = (Contains-entries now entry.0 entry.1).0 listed in ⊎_elim
      (λ (same : entry.0 ≡ id). free entry.1 (ap (λ n. fin_map.get now n) (sym same) ∙ stands))
      (λ (other : entry.0 ≡ id → ⊥).
      none_meets block_test (fin_map.entries before) none entry
      ((Contains-entries before entry.0 entry.1).1 (sym (others entry.0 other) ∙ stands)))
      (cases_eq entry.0 id))

  pub blocked_alike : (before now : Standing) (id : ℕ) → ((n : ℕ) → n ≢ id → fin_map.get now n ≡ fin_map.get before n)
      → ((o : Obstruction) → fin_map.get before id ≡ Some o → blocks_class o map.classes k cell ≡ false)
      → ((o : Obstruction) → fin_map.get now id ≡ Some o → blocks_class o map.classes k cell ≡ false)
      → is_blocked map before k cell ≡ is_blocked map now k cell
  blocked_alike before now id others was is = ⊎_elim
      (λ (blocked : is_blocked map before k cell ≡ true).
      blocked ∙ sym (true_from_ne_false (is_blocked map now k cell) (λ none.
      both_ways (is_blocked map before k cell)
      (blocked_still now before id (λ n other. sym (others n other)) was none) blocked)))
      (λ (none : is_blocked map before k cell ≡ false). none ∙ sym (blocked_still before now id others is none))
      (cases_Bool (is_blocked map before k cell))

-- ---- one edit more

some_in : (reach : Option Rect) (cell : Cell) → IsSomeAnd reach (λ (rect : Rect). IsInRect rect cell)
    → is_in_some (option_to_list reach) cell ≡ true
some_in None cell is = absurd is
some_in (Some rect) cell is = ap (λ b. b || false) (in_rect_to rect cell is)

-- a cell outside a reach is not blocked
not_blocked : (map : Map) (standing : Standing) (id : ℕ) (reach : Option Rect) (k : ℕ) (cell : Cell)
    → HoldsReach map standing id reach → IsInside map.size cell → IsFalse (is_in_some (option_to_list reach) cell)
    → (o : Obstruction) → fin_map.get standing id ≡ Some o → blocks_class o map.classes k cell ≡ false
not_blocked map standing id reach k cell holds inside out o stands =
    false_from_ne_true (blocks_class o map.classes k cell) (λ blocks.
    both_ways (is_in_some (option_to_list reach) cell) out (some_in reach cell (holds o stands k cell inside blocks)))

parted : (xs ys : List Rect) (cell : Cell) → IsFalse (is_in_some (xs ++ ys) cell)
    → IsFalse (is_in_some xs cell) × IsFalse (is_in_some ys cell)
parted xs ys cell out =
    let in_cell : Rect → Bool = λ rect. is_in_rect rect cell in
    or_parts (is_in_some xs cell) (is_in_some ys cell) (sym (list_any-append in_cell xs ys) ∙ out)

pub covers_more : (map : Map) (first before now : Standing) (id : ℕ) (rects : List Rect) (was is : Option Rect)
    → ((n : ℕ) → n ≢ id → fin_map.get now n ≡ fin_map.get before n) → HoldsReach map before id was
    → HoldsReach map now id is → CoverChanges map first before rects
    → CoverChanges map first now ((rects ++ option_to_list was) ++ option_to_list is)
covers_more map first before now id rects was is others held holds covers = record {
  same = λ k cell inside out.
      let last = parted (rects ++ option_to_list was) (option_to_list is) cell out in
      let parts = parted rects (option_to_list was) cell last.0 in
      covers.same k cell inside parts.0
      ∙ blocked_alike map k cell before now id others (not_blocked map before id was k cell held inside parts.1)
      (not_blocked map now id is k cell holds inside last.1);
}

-- ---- which numbers have changed

in_first : (xs ys : List Rect) (cell : Cell) → is_in_some xs cell ≡ true → is_in_some (xs ++ ys) cell ≡ true
in_first xs ys cell is =
    let in_cell : Rect → Bool = λ rect. is_in_rect rect cell in
    list_any-append in_cell xs ys ∙ ap (λ b. b || is_in_some ys cell) is

in_second : (xs ys : List Rect) (cell : Cell) → is_in_some ys cell ≡ true → is_in_some (xs ++ ys) cell ≡ true
in_second xs ys cell is =
    let in_cell : Rect → Bool = λ rect. is_in_rect rect cell in
    list_any-append in_cell xs ys ∙ ap (λ b. is_in_some xs cell || b) is ∙ or-true (is_in_some xs cell)

pub names_more : (map : Map) (first before now : Standing) (id : ℕ) (rects : List Rect) (ids : List ℕ)
    (was is : Option Rect) → ((n : ℕ) → n ≢ id → fin_map.get now n ≡ fin_map.get before n) → HoldsReach map now id is
    → NameChanges map first before rects ids
    → NameChanges map first now ((rects ++ option_to_list was) ++ option_to_list is) (ids ++ id ∷ [])
names_more map first before now id rects ids was is others holds names = record {
  each = λ n. elim (cases_eq n id) [
    | inl same ↦ inr (
      subst (λ (m : ℕ). Contains (ids ++ id ∷ []) m) (sym same) (Contains-push ids id),
      λ o stands k cell inside blocks.
          in_second (rects ++ option_to_list was) (option_to_list is) cell
          (some_in is cell (holds o (ap (λ m. fin_map.get now m) (sym same) ∙ stands) k cell inside blocks)),
    )
    | inr other ↦ elim (names.each n) [
      | inl stays ↦ inl (others n other ∙ stays)
      | inr named ↦ inr (
        Contains-append_left ids (id ∷ []) n named.0,
        λ o stands k cell inside blocks.
            in_first (rects ++ option_to_list was) (option_to_list is) cell (in_first rects (option_to_list was) cell
            (named.1 o (sym (others n other) ∙ stands) k cell inside blocks)),
      )
    ]
  ];
}
