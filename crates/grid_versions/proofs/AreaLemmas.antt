-- The areas of all regions under all edges are the areas of the map.
use Rattle.std.proofs.Common.{ℕ, ◌≡◌, ◌-◌, ◌<◌, ◌≤◌, Bool, List, [], length, IsTrue, IsFalse, map, get_or, refl, ap, inl, inr, sym, subst, ◌∙◌, arith, Option, None, Some, option_map}
use Rattle.std.specs.List.{Contains, slice_get}
use Rattle.std.proofs.lemmas.List.{length-map}
use Rattle.std.proofs.lemmas.Bool.{cases_Bool, both_ways}
use Rattle.std.proofs.lemmas.Option.{slice_get-map, slice_get_within, slice_get-get_or, get_or_from_slice_get, same_Some}
use Rattle.nav_types.specs.declared.cells.Cell.{Cell}
use Rattle.nav_types.specs.declared.cells.Chunk.{Chunk}
use Rattle.nav_types.specs.declared.cells.Size.{Size}
use Rattle.nav_types.specs.Cells.{cell_at, IsInside, IsBefore, IsChunkBefore, chunk_of}
use Rattle.nav_types.specs.Counting.{AreFirsts, Counts}
use Rattle.nav_types.specs.Walks.{Joined}
use Rattle.nav_types.specs.Regions.{passes_in, InOneRegion, IsAreaBefore, HasArea, IsAreaFirst}
use Rattle.chunk_regions.specs.Labelling.{Labelling}
use Rattle.nav_types.proofs.CellOrder.{IsChunkBefore-irrefl, IsAreaBefore-asym, IsAreaBefore-cases, IsAreaBefore-trans}
use Rattle.nav_types.proofs.Walking.{Joined-from_straight, Joined-passes}
use Rattle.nav_types.proofs.Items.{Contains-from_slice_get}
use Rattle.region_edges.specs.Edges.{PassesInside}
use Rattle.reach_sets.specs.declared.regions.RegionId.{RegionId}
use Rattle.reach_sets.specs.RegionOrder.{IsRegionBefore}
use Rattle.reach_sets.specs.AreaNumbers.{area_of, AreJoined, IsFirstRegion}
use Rattle.reach_sets.proofs.UniqueLemmas.{IsRegionBefore-cases}
use Rattle.grid_versions.specs.Chunks.{chunk_place}
use Rattle.grid_versions.specs.Versions.{HasPassable}
use Rattle.grid_versions.specs.inner.ChunkLists.{chunk_numbered}
use Rattle.grid_versions.specs.inner.Tables.{Tables, AreTables, region_counts, region_in}
use Rattle.nav_types.proofs.Items.{from_map, Contains-map, AllPairs-map}
use Rattle.nav_types.proofs.Regions.{lies_in}
use Rattle.grid_versions.proofs.ChunkLemmas.{one_place, before_place, chunk_inside}
use Rattle.grid_versions.proofs.RegionLemmas.{has_region, region_exists, joined_from_same, HasFirst, has_first}
use Rattle.grid_versions.proofs.LinkLemmas.{JoinedStraight-from_region, regions_joined, cells_joined}

-- ---- first cells

abbrev firsts_in : Option Labelling → List Cell
firsts_in None = []
firsts_in (Some labels) = labels.firsts

-- the first cell of a region
abbrev pub first_cell : Tables → RegionId → Cell
first_cell tables id = get_or (firsts_in (slice_get tables.labels id.chunk)) (id.region - 1) (cell_at 0 0)

first_cell_is : (passes : Cell → Bool) (size : Size) (tables : Tables) (id : RegionId) (f : HasFirst passes size tables id) → first_cell tables id ≡ f.cell
first_cell_is passes size tables id f =
    ap (λ o. get_or (firsts_in o) (id.region - 1) (cell_at 0 0)) f.at
    ∙ get_or_from_slice_get f.labels.firsts (id.region - 1) f.cell (cell_at 0 0) f.found

module _ (passes : Cell → Bool) (size : Size) (tables : Tables) (inside : PassesInside passes size) (are : AreTables passes size tables) where
  -- regions are in the order of their first cells
  firsts_before : (x y : RegionId) (f : HasFirst passes size tables x) (g : HasFirst passes size tables y)
      → 1 ≤ x.region → IsRegionBefore x y → IsAreaBefore f.cell g.cell
  firsts_before x y f g real before =
      let f_in = chunk_inside size f.cell (inside f.cell f.passable) in
      let g_in = chunk_inside size g.cell (inside g.cell g.passable) in
      let f_at : chunk_place size (chunk_of f.cell) ≡ x.chunk = ap (λ (id : RegionId). id.chunk) f.region_is in
      let g_at : chunk_place size (chunk_of g.cell) ≡ y.chunk = ap (λ (id : RegionId). id.chunk) g.region_is in
      elim before [
        | inl chunk ↦ inl (before_place size (chunk_of f.cell) (chunk_of g.cell) f_in g_in (omega arith))
        | inr number ↦
            let labels : f.labels ≡ g.labels = same_Some f.labels g.labels (sym f.at ∙ ap (λ k. slice_get tables.labels k) number.0 ∙ g.at) in
            let there : slice_get f.labels.firsts (y.region - 1) ≡ Some g.cell =
            ap (λ (l : Labelling). slice_get l.firsts (y.region - 1)) labels ∙ g.found in
            let low = slice_get_within f.labels.firsts (y.region - 1) g.cell there in
            let rising = f.are.first_cells.rising (x.region - 1) (y.region - 1) f.cell (omega (arith, number.1)) low in
            let here_is = get_or_from_slice_get f.labels.firsts (x.region - 1) f.cell f.cell f.found in
            let there_is = get_or_from_slice_get f.labels.firsts (y.region - 1) g.cell f.cell there in
            inr (
              one_place size (chunk_of f.cell) (chunk_of g.cell) f_in g_in (f_at ∙ number.0 ∙ sym g_at),
              subst (λ (c : Cell). IsBefore f.cell c) there_is
                  (subst (λ (c : Cell). IsBefore c (get_or f.labels.firsts (y.region - 1) f.cell)) here_is rising),
            )
      ]

  -- no cell of a region comes before its first cell
  none_before : (id : RegionId) (f : HasFirst passes size tables id) (cell : Cell) → IsTrue (passes cell) → region_in size tables cell ≡ id
      → IsAreaBefore cell f.cell → ⊥
  none_before id f cell passable is before =
      let same : region_in size tables f.cell ≡ region_in size tables cell = f.region_is ∙ sym is in
      let chunk = chunk_numbered size id.chunk in
      let chunks : chunk_of f.cell ≡ chunk_of cell =
      one_place size (chunk_of f.cell) (chunk_of cell) (chunk_inside size f.cell (inside f.cell f.passable)) (chunk_inside size cell (inside cell passable))
      (ap (λ (x : RegionId). x.chunk) same) in
      let joined = joined_from_same passes size tables are f.cell cell (inside f.cell f.passable) (inside cell passable) f.passable passable same in
      elim before [
        | inl chunk_before ↦ IsChunkBefore-irrefl (chunk_of cell) (subst (λ (c : Chunk). IsChunkBefore (chunk_of cell) c) chunks chunk_before)
        | inr cell_before ↦
            f.first.earliest cell (subst (λ (c : Chunk). InOneRegion passes c f.cell cell) f.in_chunk joined) cell_before.1
      ]

  -- the first cell of an area's first region is the first of the area
  first_of_area : (id : RegionId) (f : HasFirst passes size tables id) → IsFirstRegion (region_counts tables) are.links id → IsAreaFirst passes f.cell
  first_of_area id f first = record {
    passable = f.passable;
    earliest = λ other joined before.
        let passable = Joined-passes passes f.cell other f.passable joined in
        let x = region_in size tables other in
        let exists = region_exists passes size tables are other (inside other passable) passable in
        let linked : AreJoined are.links id x = subst (λ (y : RegionId). AreJoined are.links y x) f.region_is (regions_joined passes size tables inside are f.cell other joined) in
        let g = has_first passes size tables inside are x exists in
        elim (IsRegionBefore-cases x id) [
          | inl same ↦ none_before id f other passable same before
          | inr apart ↦ elim apart [
            | inl low ↦ first.earliest x exists linked low
            | inr high ↦ none_before x g other passable refl
                (IsAreaBefore-trans other f.cell g.cell before (firsts_before id x f g first.exists.first high))
          ]
        ];
  }

  -- the region of the first cell of an area is the area's first region, and the cell is the region's first
  region_of_first : (cell : Cell) → IsAreaFirst passes cell → IsFirstRegion (region_counts tables) are.links (region_in size tables cell)
  region_of_first cell first =
      let x = region_in size tables cell in
      let exists = region_exists passes size tables are cell (inside cell first.passable) first.passable in
      let f = has_first passes size tables inside are x exists in
      record {
        exists = exists;
        earliest = λ other other_is linked before.
            let g = has_first passes size tables inside are other other_is in
            let joined : Joined passes cell g.cell = cells_joined passes size tables inside are cell g.cell first.passable g.passable
            (subst (λ (y : RegionId). AreJoined are.links x y) (sym g.region_is) linked) in
            let ahead : IsAreaBefore g.cell f.cell = firsts_before other x g f other_is.first before in
            elim (IsAreaBefore-cases f.cell cell) [
              | inl same ↦ first.earliest g.cell joined (subst (λ (c : Cell). IsAreaBefore g.cell c) same ahead)
              | inr apart ↦ elim apart [
                | inl low ↦ first.earliest g.cell joined (IsAreaBefore-trans g.cell f.cell cell ahead low)
                | inr high ↦ none_before x f cell first.passable refl high
              ]
            ];
      }

  cell_of_first : (cell : Cell) → IsAreaFirst passes cell → first_cell tables (region_in size tables cell) ≡ cell
  cell_of_first cell first =
      let x = region_in size tables cell in
      let exists = region_exists passes size tables are cell (inside cell first.passable) first.passable in
      let f = has_first passes size tables inside are x exists in
      let joined = Joined-from_straight passes cell f.cell (JoinedStraight-from_region passes (chunk_of cell) cell f.cell
      (joined_from_same passes size tables are cell f.cell (inside cell first.passable) (inside f.cell f.passable) first.passable f.passable (sym f.region_is))) in
      let same : f.cell ≡ cell = elim (IsAreaBefore-cases f.cell cell) [
        | inl same ↦ same
        | inr apart ↦ elim apart [
          | inl low ↦ absurd (first.earliest f.cell joined low)
          | inr high ↦ absurd (none_before x f cell first.passable refl high)
        ]
      ] in
      first_cell_is passes size tables x f ∙ same

  -- the first cells of all areas, in order
  abbrev area_firsts : List Cell
  area_firsts = map (λ id. first_cell tables id) are.areas_are.firsts

  pub area_firsts_are : AreFirsts passes (Joined passes) IsAreaBefore area_firsts
  area_firsts_are =
      let ids = are.areas_are.firsts in
      let of = are.areas_are.are_firsts in
      record {
        each = λ cell listed.
            let back = from_map (λ id. first_cell tables id) ids cell listed in
            let id = back.0 in
            let first = of.each id back.1.0 in
            let f = has_first passes size tables inside are id first.exists in
            subst (λ (c : Cell). IsAreaFirst passes c) (sym (first_cell_is passes size tables id f) ∙ back.1.1) (first_of_area id f first);
        all = λ cell first.
            subst (λ (c : Cell). Contains area_firsts c) (cell_of_first cell first)
            (Contains-map (λ id. first_cell tables id) ids (region_in size tables cell) (of.all (region_in size tables cell) (region_of_first cell first)));
        rising = AllPairs-map IsRegionBefore IsAreaBefore (λ id. first_cell tables id) ids of.rising
            (λ x y in_x in_y before.
            let x_is = (of.each x in_x).exists in
            let f = has_first passes size tables inside are x x_is in
            let g = has_first passes size tables inside are y (of.each y in_y).exists in
            subst (λ (c : Cell). IsAreaBefore c (first_cell tables y)) (sym (first_cell_is passes size tables x f))
            (subst (λ (c : Cell). IsAreaBefore f.cell c) (sym (first_cell_is passes size tables y g)) (firsts_before x y f g x_is.first before)));
      }

  no_region : (cell : Cell) → IsInside size cell → IsFalse (passes cell) → (region_in size tables cell).region ≡ 0
  no_region cell within shut = elim (cases_Bool (passes_in passes (chunk_of cell) cell)) [
    | inl passable ↦ absurd (both_ways (passes cell) shut (lies_in passes (chunk_of cell) cell passable).passable)
    | inr none ↦ (has_region passes size tables are cell within).blocked none
  ]

  -- areas of all regions and edges are the areas of the map
  pub has_area : (cell : Cell) → IsInside size cell → HasArea passes cell (area_of tables.areas (region_in size tables cell))
  has_area cell within =
      let x = region_in size tables cell in
      let area : ℕ → ℕ = λ n. area_of tables.areas (record { chunk = chunk_place size (chunk_of cell); region = n }) in
      record {
        blocked = λ shut. ap area (no_region cell within shut);
        placed = λ passable.
            let n = are.areas_are.numbers x (region_exists passes size tables are cell within passable) in
            let listed = Contains-from_slice_get are.areas_are.firsts n.place n.first n.at in
            let f = has_first passes size tables inside are n.first (are.areas_are.are_firsts.each n.first listed).exists in
            let joined = cells_joined passes size tables inside are cell f.cell passable f.passable
            (subst (λ (y : RegionId). AreJoined are.links x y) (sym f.region_is) n.joined) in
            let at : slice_get area_firsts n.place ≡ Some f.cell =
            slice_get-map (λ id. first_cell tables id) are.areas_are.firsts n.place ∙ ap (λ o. option_map (λ id. first_cell tables id) o) n.at
            ∙ ap (λ (c : Cell). Some c) (first_cell_is passes size tables n.first f) in
            (area_firsts, (area_firsts_are, (n.place, (f.cell, (at, (joined, n.number_is))))));
      }

  -- the number of areas counts them
  pub area_tally : Counts (IsAreaFirst passes) tables.areas.count
  area_tally = (
    area_firsts,
    (
      record {
        each = area_firsts_are.each;
        all = area_firsts_are.all;
        once = λ i j d low high same.
            let before = area_firsts_are.rising i j d low high in
            let own = subst (λ (c : Cell). IsAreaBefore (get_or area_firsts i d) c) (sym same) before in
            IsAreaBefore-asym (get_or area_firsts i d) (get_or area_firsts i d) own own;
      },
      length-map are.areas_are.firsts (λ id. first_cell tables id) ∙ sym are.areas_are.count_is,
    ),
  )

  -- a class with a passable cell has an area
  pub area_of_passable : HasPassable passes → 0 < tables.areas.count
  area_of_passable some =
      let exists = region_exists passes size tables are some.0 (inside some.0 some.1) some.1 in
      let number = are.areas_are.numbers (region_in size tables some.0) exists in
      omega (arith, slice_get_within are.areas_are.firsts number.place number.first number.at, are.areas_are.count_is)

  -- the first cell of an area is passable
  pub passable_of_area : 0 < tables.areas.count → HasPassable passes
  passable_of_area some =
      let first = get_or area_firsts 0 (cell_at 0 0) in
      let many : length area_firsts ≡ tables.areas.count =
      length-map are.areas_are.firsts (λ id. first_cell tables id) ∙ sym are.areas_are.count_is in
      let at = slice_get-get_or area_firsts 0 (cell_at 0 0) (omega (arith, some, many)) in
      (first, (area_firsts_are.each first (Contains-from_slice_get area_firsts 0 first at)).passable)
