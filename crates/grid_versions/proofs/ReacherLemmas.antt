-- Lists that have the obstructions that reach into a rectangle.
use Rattle.std.proofs.Common.{◌≡◌, ℕ, ◌⊎◌, ◌||◌, Bool, true, false, List, [], ◌∷◌, ◌++◌, Option, None, Some, IsTrue}
use Rattle.std.proofs.Common.{refl, sym, ap, ⊎_elim, ◌∙◌, inl, inr}
use Rattle.std.specs.List.{list_any, Contains}
use Rattle.std.specs.Option.{option_map_or}
use Rattle.std.specs.FinMap as fin_map
use Rattle.std.proofs.lemmas.Bool.{cases_Bool, both_ways, true_from_ne_false, false_from_ne_true, or_right}
use Rattle.std.proofs.lemmas.List.Elements.{Contains-push, Contains-append_left}
use Rattle.nav_types.specs.declared.cells.Cell.{Cell}
use Rattle.nav_types.specs.declared.cells.Rect.{Rect}
use Rattle.nav_types.specs.Cells.{IsInRect, IsRectInside}
use Rattle.lane_rows.specs.Rows.{has_class}
use Rattle.nav_types.specs.Rects.{IsPartOf}
use Rattle.obstruction_shapes.specs.declared.shapes.Obstruction.{Obstruction}
use Rattle.clearance_raster.specs.Rasters.{blocks_class}
use Rattle.clearance_raster.proofs.Rastering.{in_whole}
use Rattle.clearance_raster.proofs.Reaching.{inside_map}
use Rattle.obstruction_store.specs.Standing.{Standing}
use Rattle.obstruction_store.proofs.Listing.{Contains-entries}
use Rattle.posts.specs.Maps.{Map}
use Rattle.grid_versions.specs.declared.reachers.Reacher.{Reacher}
use Rattle.grid_versions.specs.Passing.{has_base, is_blocked}
use Rattle.grid_versions.specs.inner.Painting.{is_covered}
use Rattle.grid_versions.specs.inner.Reaching.{is_in_some, LiesWithin, NameChanges, AreNamed, StillStands}
use Rattle.grid_versions.specs.inner.Reachers.{blocks_under, HaveBlocked, HoldReachers, HoldUnpainted, IsReachNoted, HoldReached}
use Rattle.grid_versions.proofs.PassingLemmas.{none_meets, any_none}

-- ---- what stands under a number

module _ (map : Map) (standing : Standing) (k : ℕ) (cell : Cell) where
  blocks_found : Option Obstruction → Bool
  blocks_found found = option_map_or (λ (o : Obstruction). blocks_class o map.classes k cell) found false

  pub under_found : (id : ℕ) (o : Obstruction) → fin_map.get standing id ≡ Some o
      → blocks_under map standing k cell id ≡ blocks_class o map.classes k cell
  unfolding blocks_found
  under_found id o stands = ap blocks_found stands

  pub under_none : (id : ℕ) → fin_map.get standing id ≡ None → blocks_under map standing k cell id ≡ false
  unfolding blocks_found
  under_none id none = ap blocks_found none

  block_test : ℕ × Obstruction → Bool
  block_test entry = blocks_class entry.1 map.classes k cell

  none_under : is_blocked map standing k cell ≡ false → (id : ℕ) (found : Option Obstruction)
      → fin_map.get standing id ≡ found → blocks_under map standing k cell id ≡ false
  unfolding block_test
  none_under none id None stands = under_none id stands
  none_under none id (Some o) stands =
      under_found id o stands
      ∙ none_meets block_test (fin_map.entries standing) none (id, o) ((Contains-entries standing id o).1 stands)

  -- what is listed blocks
  pub listed_blocks : (ids : List ℕ) → list_any (blocks_under map standing k cell) ids ≡ true
      → is_blocked map standing k cell ≡ true
  listed_blocks ids listed = true_from_ne_false (is_blocked map standing k cell) (λ none.
      both_ways (list_any (blocks_under map standing k cell) ids)
      (any_none (blocks_under map standing k cell) ids (λ id has. none_under none id (fin_map.get standing id) refl))
      listed)

  -- what one obstruction blocks is blocked
  pub one_blocks : (id : ℕ) (o : Obstruction) → fin_map.get standing id ≡ Some o
      → blocks_class o map.classes k cell ≡ true → is_blocked map standing k cell ≡ true
  unfolding block_test
  one_blocks id o stands blocks = true_from_ne_false (is_blocked map standing k cell) (λ none.
      both_ways (blocks_class o map.classes k cell)
      (none_meets block_test (fin_map.entries standing) none (id, o) ((Contains-entries standing id o).1 stands)) blocks)

  unpainted_none : (rect : Rect) (numbers : Cell → ℕ) (ids : List ℕ) → HoldUnpainted map standing rect numbers ids
      → IsInRect rect cell → has_class k (numbers cell) ≡ false → list_any (blocks_under map standing k cell) ids ≡ false
      → is_blocked map standing k cell ≡ false
  unfolding block_test
  unpainted_none rect numbers ids holds inside clear none =
      any_none block_test (fin_map.entries standing) (λ entry listed.
      let stands = (Contains-entries standing entry.0 entry.1).0 listed in
      false_from_ne_true (blocks_class entry.1 map.classes k cell) (λ blocks.
      elim (holds.all entry.0 entry.1 stands k cell inside blocks) [
        | inl set ↦ both_ways (has_class k (numbers cell)) clear set
        | inr has ↦
            both_ways (blocks_under map standing k cell entry.0)
            (none_meets (blocks_under map standing k cell) ids none entry.0 has)
            (under_found entry.0 entry.1 stands ∙ blocks)
      ]))

  -- what blocks is listed, or the bit is set already
  pub blocked_listed : (rect : Rect) (numbers : Cell → ℕ) (ids : List ℕ)
      → HoldUnpainted map standing rect numbers ids → IsInRect rect cell → is_blocked map standing k cell ≡ true
      → (has_class k (numbers cell) ≡ true) ⊎ (list_any (blocks_under map standing k cell) ids ≡ true)
  blocked_listed rect numbers ids holds inside blocked = ⊎_elim
      (λ (set : has_class k (numbers cell) ≡ true). inl set)
      (λ (clear : has_class k (numbers cell) ≡ false).
      inr (true_from_ne_false (list_any (blocks_under map standing k cell) ids) (λ none.
      both_ways (is_blocked map standing k cell) (unpainted_none rect numbers ids holds inside clear none) blocked)))
      (cases_Bool (has_class k (numbers cell)))

-- a list of all is one of those that have not set their bits
pub all_unpainted : (map : Map) (standing : Standing) (rect : Rect) (numbers : Cell → ℕ) (ids : List ℕ)
    → HoldReachers map standing rect ids → HoldUnpainted map standing rect numbers ids
all_unpainted map standing rect numbers ids holds =
    record { all = λ id o stands k cell inside blocks. inr (holds.all id o stands k cell inside blocks) }

-- other numbers that are the same in the rectangle
pub unpainted_same : (map : Map) (standing : Standing) (rect : Rect) (a b : Cell → ℕ) (ids : List ℕ)
    → ((cell : Cell) → IsInRect rect cell → b cell ≡ a cell) → HoldUnpainted map standing rect a ids
    → HoldUnpainted map standing rect b ids
unpainted_same map standing rect a b ids same holds = record {
  all = λ id o stands k cell inside blocks. elim (holds.all id o stands k cell inside blocks) [
    | inl set ↦ inl (ap (λ n. has_class k n) (same cell inside) ∙ set)
    | inr has ↦ inr has
  ];
}

-- ---- obstructions that are added

-- where nothing stood under the numbers of the changes, what stood stands
pub only_adds : (map : Map) (before now : Standing) (rects : List Rect) (ids : List ℕ)
    → NameChanges map before now rects ids
    → ((id : ℕ) → Contains ids id → fin_map.get before id ≡ None) → StillStands before now
only_adds map before now rects ids names none = λ id o stood. elim (names.each id) [
  | inl same ↦ same ∙ stood
  | inr named ↦
      let nothing : fin_map.get before id ≡ None = none id named.0 in
      let apart : Some o ≡ None = sym stood ∙ nothing in absurd (cc)
]

-- where nothing stands under them, what stands stood
pub only_removes : (map : Map) (before now : Standing) (rects : List Rect) (ids : List ℕ)
    → NameChanges map before now rects ids
    → ((id : ℕ) → Contains ids id → fin_map.get now id ≡ None) → StillStands now before
only_removes map before now rects ids names none = λ id o stands. elim (names.each id) [
  | inl same ↦ sym same ∙ stands
  | inr named ↦
      let nothing : fin_map.get now id ≡ None = none id named.0 in
      let apart : Some o ≡ None = sym stands ∙ nothing in absurd (cc)
]

or_absorb : (b e n : Bool) → (e ≡ true → n ≡ true) → ((b || e) || n) ≡ (b || n)
or_absorb true e n later = refl
or_absorb false true n later = sym (later refl)
or_absorb false false n later = refl

-- what is blocked is where all of it stands
stays_blocked : (map : Map) (one other : Standing) → StillStands one other → (k : ℕ) (cell : Cell)
    → is_blocked map one k cell ≡ true → is_blocked map other k cell ≡ true
stays_blocked map one other still k cell was = true_from_ne_false (is_blocked map other k cell) (λ none.
    both_ways (is_blocked map one k cell)
    (any_none (λ (entry : ℕ × Obstruction). blocks_class entry.1 map.classes k cell) (fin_map.entries one)
    (λ entry listed.
    none_meets (λ (e : ℕ × Obstruction). blocks_class e.1 map.classes k cell) (fin_map.entries other) none entry
    ((Contains-entries other entry.0 entry.1).1
    (still entry.0 entry.1 ((Contains-entries one entry.0 entry.1).0 listed)))))
    was)

module _ (map : Map) (earlier now : Standing) (rect : Rect) (old : Cell → ℕ)
    (bits : (k : ℕ) (cell : Cell) → IsInRect rect cell → has_class k (old cell) ≡ is_covered map earlier k cell) where
  -- over numbers of before, what stands under changed numbers is all that is left
  pub changed_unpainted : (ids : List ℕ) → AreNamed earlier now ids → HoldUnpainted map now rect old ids
  changed_unpainted ids named = record {
    all = λ id o stands k cell inside blocks. elim (named id) [
      | inl same ↦
          inl (bits k cell inside
          ∙ or_right (has_base map k cell) (is_blocked map earlier k cell)
          (one_blocks map earlier k cell id o (sym same ∙ stands) blocks))
      | inr listed ↦ inr listed
    ];
  }

  -- where nothing was but removed, the numbers of before have all bits that are left
  pub has_blocked : StillStands now earlier → HaveBlocked map now rect old
  has_blocked removes k cell inside blocked =
      bits k cell inside
      ∙ or_right (has_base map k cell) (is_blocked map earlier k cell) (stays_blocked map now earlier removes k cell blocked)

  -- a bit of before or of now
  pub covered_now : StillStands earlier now → (k : ℕ) (cell : Cell) → IsInRect rect cell
      → (has_class k (old cell) || is_blocked map now k cell) ≡ is_covered map now k cell
  covered_now adds k cell inside =
      ap (λ b. b || is_blocked map now k cell) (bits k cell inside)
      ∙ or_absorb (has_base map k cell) (is_blocked map earlier k cell) (is_blocked map now k cell)
      (stays_blocked map earlier now adds k cell)

-- a list for a rectangle serves for a part of it
pub HoldReachers-part : (map : Map) (standing : Standing) (rect part : Rect) (ids : List ℕ)
    → HoldReachers map standing rect ids → IsPartOf rect part → HoldReachers map standing part ids
HoldReachers-part map standing rect part ids holds within = record {
  all = λ id o stands k cell inside blocks.
      holds.all id o stands k cell (in_whole rect part cell within inside) blocks;
}

-- ---- after changes

-- what stands where there is no rectangle
abbrev pub no_reacher : Reacher
no_reacher = record { id = 0; rect = record { i0 = 0; j0 = 0; i1 = 0; j1 = 0 } }

-- a rectangle put behind others
pub IsReachNoted-push : (reachers : List Reacher) (reacher : Reacher) (id : ℕ) (cell : Cell) → IsReachNoted reachers id cell
    → IsReachNoted (reachers ++ reacher ∷ []) id cell
IsReachNoted-push reachers reacher id cell is = record {
  reacher = is.reacher;
  listed = Contains-append_left reachers (reacher ∷ []) is.reacher is.listed;
  of = is.of;
  holds = is.holds;
}

pub IsReachNoted-last : (reachers : List Reacher) (reacher : Reacher) (cell : Cell) → IsInRect reacher.rect cell
    → IsReachNoted (reachers ++ reacher ∷ []) reacher.id cell
IsReachNoted-last reachers reacher cell holds = record {
  reacher = reacher;
  listed = Contains-push reachers reacher;
  of = refl;
  holds = holds;
}

module _ (map : Map) (earlier now : Standing) (rects : List Rect) (changed : List Reacher)
    (each : (id : ℕ) → (fin_map.get now id ≡ fin_map.get earlier id)
    ⊎ (HoldReached map now changed id × LiesWithin map now id rects)) (rect : Rect) (old : List ℕ)
    (holds : HoldReachers map earlier rect old) (within : IsRectInside map.size rect) where
  -- what is made of the old list without the changed numbers, and of the changes, has all
  pub reachers_made : (ids made : List ℕ) → ((id : ℕ) → Contains ids id → HoldReached map now changed id)
      → ((id : ℕ) → Contains old id → Contains ids id ⊎ Contains made id)
      → ((id : ℕ) (cell : Cell) → IsReachNoted changed id cell → IsInRect rect cell → Contains made id)
      → HoldReachers map now rect made
  reachers_made ids made named kept listed = record {
    all = λ id o stands k cell inside blocks.
        let here = inside_map map.size rect cell within inside in
        let by_change : HoldReached map now changed id → Contains made id = λ reached.
        listed id cell (reached o stands k cell here blocks) inside in
        elim (each id) [
          | inl same ↦ elim (kept id (holds.all id o (sym same ∙ stands) k cell inside blocks)) [
            | inl changed_id ↦ by_change (named id changed_id)
            | inr has ↦ has
          ]
          | inr was ↦ by_change was.0
        ];
  }

-- a list stays where no changed obstruction reaches
pub reachers_stay : (map : Map) (earlier now : Standing) (rects : List Rect) (ids : List ℕ) → NameChanges map earlier now rects ids
    → (rect : Rect) (old : List ℕ) → HoldReachers map earlier rect old → IsRectInside map.size rect
    → ((cell : Cell) → IsInRect rect cell → ¬ IsTrue (is_in_some rects cell)) → HoldReachers map now rect old
reachers_stay map earlier now rects ids names rect old holds within out = record {
  all = λ id o stands k cell inside blocks. elim (names.each id) [
    | inl same ↦ holds.all id o (sym same ∙ stands) k cell inside blocks
    | inr named ↦
        absurd (out cell inside (named.1 o stands k cell (inside_map map.size rect cell within inside) blocks))
  ];
}
