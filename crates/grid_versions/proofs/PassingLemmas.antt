-- A cell is passable exactly where nothing covers it.
use Rattle.std.proofs.Common.{◌≡◌, ℕ, Bool, true, false, ◌&&◌, ◌||◌, not, List, [], ◌∷◌, length, refl, sym, ap, inl, inr, ⊎_elim, ◌∙◌}
use Rattle.std.specs.Prelude.{nat_le, nat_lt, ◌↔◌, IsTrue}
use Rattle.std.specs.List.{list_any, Contains}
use Rattle.std.specs.FinMap as fin_map
use Rattle.std.proofs.lemmas.Bool.{and_parts, and_from, and_cases, and_left, and_right, or_parts, or_from, not-true, not_from_false, cases_Bool, ltb-true, lt-ltb, leb-true, le-leb, both_ways}
use Rattle.nav_types.specs.declared.cells.Cell.{Cell}
use Rattle.nav_types.specs.declared.cells.Rect.{Rect}
use Rattle.nav_types.specs.declared.cells.Size.{Size}
use Rattle.nav_types.specs.Cells.{IsInside, IsInRect}
use Rattle.lane_rows.specs.Rows.{has_class}
use Rattle.obstruction_shapes.specs.declared.shapes.Obstruction.{Obstruction}
use Rattle.clearance_raster.specs.Rasters.{blocks_class}
use Rattle.obstruction_store.specs.Standing.{Standing}
use Rattle.obstruction_store.proofs.Listing.{Contains-entries}
use Rattle.posts.specs.Maps.{Map}
use Rattle.grid_versions.specs.Passing.{is_inside, is_in_rect, has_base, is_blocked, passable_at, IsPassable}
use Rattle.nav_types.proofs.Items.{Contains-head, Contains-tail, Contains-cons_cases, Contains-none}

-- ---- tests of cells

pub inside_from : (size : Size) (cell : Cell) → is_inside size cell ≡ true → IsInside size cell
inside_from size cell is =
    let parts = and_parts (nat_lt cell.i size.w) (nat_lt cell.j size.h) is in
    record { column = ltb-true cell.i size.w parts.0; row = ltb-true cell.j size.h parts.1 }

pub inside_to : (size : Size) (cell : Cell) → IsInside size cell → is_inside size cell ≡ true
inside_to size cell inside =
    and_from (nat_lt cell.i size.w) (nat_lt cell.j size.h) (lt-ltb cell.i size.w inside.column) (lt-ltb cell.j size.h inside.row)

pub in_rect_from : (rect : Rect) (cell : Cell) → is_in_rect rect cell ≡ true → IsInRect rect cell
in_rect_from rect cell is =
    let west = nat_le rect.i0 cell.i in let east = nat_le cell.i rect.i1 in
    let south = nat_le rect.j0 cell.j in let north = nat_le cell.j rect.j1 in
    let three = and_parts (west && east && south) north is in
    let two = and_parts (west && east) south three.0 in
    let one = and_parts west east two.0 in
    record {
      west = leb-true rect.i0 cell.i one.0;
      east = leb-true cell.i rect.i1 one.1;
      south = leb-true rect.j0 cell.j two.1;
      north = leb-true cell.j rect.j1 three.1;
    }

pub in_rect_to : (rect : Rect) (cell : Cell) → IsInRect rect cell → is_in_rect rect cell ≡ true
in_rect_to rect cell inside =
    let west = nat_le rect.i0 cell.i in let east = nat_le cell.i rect.i1 in
    let south = nat_le rect.j0 cell.j in let north = nat_le cell.j rect.j1 in
    and_from (west && east && south) north
    (and_from (west && east) south
    (and_from west east (le-leb rect.i0 cell.i inside.west) (le-leb cell.i rect.i1 inside.east))
    (le-leb rect.j0 cell.j inside.south))
    (le-leb cell.j rect.j1 inside.north)

-- ---- what no item meets

pub none_meets : {X : Type 0} (p : X → Bool) (xs : List X) → list_any p xs ≡ false → (x : X) → Contains xs x → p x ≡ false
none_meets p [] none x has = absurd (Contains-none x has)
none_meets p (y ∷ ys) none x has =
    let parts = or_parts (p y) (list_any p ys) none in
    elim (Contains-cons_cases y ys x has) [
      | inl here ↦ ap p (sym here) ∙ parts.0
      | inr later ↦ none_meets p ys parts.1 x later
    ]

pub any_none : {X : Type 0} (p : X → Bool) (xs : List X) → ((x : X) → Contains xs x → p x ≡ false) → list_any p xs ≡ false
any_none p [] each = refl
any_none p (y ∷ ys) each =
    or_from (p y) (list_any p ys) (each y (Contains-head y ys)) (any_none p ys (λ x has. each x (Contains-tail y ys x has)))

-- the first of two tests fails where both fail together and the second holds
first_fails : (x y : Bool) → (x && y) ≡ false → y ≡ true → x ≡ false
first_fails x y both second = elim (and_cases x y both) [
  | inl first ↦ first
  | inr not_second ↦ absurd (both_ways y not_second second)
]

-- ---- passable cells

module _ (map : Map) (standing : Standing) (k : ℕ) (cell : Cell) where
  base_test : Rect × ℕ → Bool
  base_test entry = has_class k entry.1 && is_in_rect entry.0 cell

  block_test : ℕ × Obstruction → Bool
  block_test entry = blocks_class entry.1 map.classes k cell

  words_from_test : passable_at map standing k cell ≡ true → IsPassable map standing k cell
  unfolding passable_at base_test block_test
  words_from_test is =
      let all = and_parts (nat_lt k (length map.classes) && is_inside map.size cell) (not (has_base map k cell || is_blocked map standing k cell)) is in
      let where_ = and_parts (nat_lt k (length map.classes)) (is_inside map.size cell) all.0 in
      let free = or_parts (has_base map k cell) (is_blocked map standing k cell) (not-true (has_base map k cell || is_blocked map standing k cell) all.1) in
      record {
        class = ltb-true k (length map.classes) where_.0;
        inside = inside_from map.size cell where_.1;
        base = λ rect mask listed inside.
            first_fails (has_class k mask) (is_in_rect rect cell)
            (none_meets base_test map.base free.0 (rect, mask) listed) (in_rect_to rect cell inside);
        clear = λ id obstruction stands.
            none_meets block_test (fin_map.entries standing) free.1 (id, obstruction) ((Contains-entries standing id obstruction).1 stands);
      }

  base_free : IsPassable map standing k cell → (entry : Rect × ℕ) → Contains map.base entry → base_test entry ≡ false
  unfolding base_test
  base_free is entry listed = ⊎_elim
      (λ (inside : is_in_rect entry.0 cell ≡ true).
      and_left (has_class k entry.1) (is_in_rect entry.0 cell) (is.base entry.0 entry.1 listed (in_rect_from entry.0 cell inside)))
      (λ (outside : is_in_rect entry.0 cell ≡ false). and_right (has_class k entry.1) (is_in_rect entry.0 cell) outside)
      (cases_Bool (is_in_rect entry.0 cell))

  block_free : IsPassable map standing k cell → (entry : ℕ × Obstruction) → Contains (fin_map.entries standing) entry → block_test entry ≡ false
  unfolding block_test
  block_free is entry listed = is.clear entry.0 entry.1 ((Contains-entries standing entry.0 entry.1).0 listed)

  test_from_words : IsPassable map standing k cell → passable_at map standing k cell ≡ true
  unfolding passable_at base_test block_test
  test_from_words is =
      let free = or_from (has_base map k cell) (is_blocked map standing k cell)
      (any_none base_test map.base (base_free is)) (any_none block_test (fin_map.entries standing) (block_free is)) in
      and_from (nat_lt k (length map.classes) && is_inside map.size cell) (not (has_base map k cell || is_blocked map standing k cell))
      (and_from (nat_lt k (length map.classes)) (is_inside map.size cell) (lt-ltb k (length map.classes) is.class) (inside_to map.size cell is.inside))
      (not_from_false (has_base map k cell || is_blocked map standing k cell) free)

  pub passable_in_words : IsTrue (passable_at map standing k cell) ↔ IsPassable map standing k cell
  passable_in_words = (words_from_test, test_from_words)
