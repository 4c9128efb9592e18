-- The regions of cells by the tables of a class.
use Rattle.std.proofs.Common.{ℕ, ◌≡◌, ◌+◌, ◌-◌, ◌<◌, ◌≤◌, Bool, List, IsTrue, length, get_or, refl, ap, inl, inr, sym, subst, ◌∙◌, arith, Some, option_map}
use Rattle.std.specs.List.{slice_get}
use Rattle.std.proofs.lemmas.List.{length-map}
use Rattle.std.proofs.lemmas.Bool.{both_ways}
use Rattle.std.proofs.lemmas.Option.{slice_get-map, slice_get_within, slice_get_cases, get_or_from_slice_get, same_Some}
use Rattle.nav_types.specs.declared.cells.Cell.{Cell}
use Rattle.nav_types.specs.declared.cells.Chunk.{Chunk}
use Rattle.nav_types.specs.declared.cells.Rect.{Rect}
use Rattle.nav_types.specs.declared.cells.Size.{Size}
use Rattle.nav_types.specs.Cells.{IsInside, IsInRect, IsBefore, chunk_of}
use Rattle.nav_types.specs.Counting.{IsFirst}
use Rattle.nav_types.specs.Regions.{passes_in, InOneRegion, HasRegion}
use Rattle.nav_types.specs.Numbering.{number_of}
use Rattle.chunk_regions.specs.Labelling.{Labelling, AreLabels}
use Rattle.nav_types.proofs.CellOrder.{IsBefore-asym, IsBefore-cases}
use Rattle.nav_types.proofs.Walking.{JoinedStraight-refl, JoinedStraight-sym, JoinedStraight-trans}
use Rattle.nav_types.proofs.Items.{Contains-from_slice_get}
use Rattle.nav_types.proofs.FirstCells.{HasNumber-same, HasNumber-together}
use Rattle.chunk_regions.proofs.LabelLemmas.{in_rect, AreLabels-placed, AreLabels-at_most}
use Rattle.region_edges.specs.Edges.{PassesInside}
use Rattle.reach_sets.specs.declared.regions.RegionId.{RegionId}
use Rattle.reach_sets.specs.RegionOrder.{IsRegion}
use Rattle.reach_sets.proofs.RowLemmas.{same_region}
use Rattle.grid_versions.specs.Chunks.{chunk_count, chunk_place}
use Rattle.grid_versions.specs.inner.ChunkLists.{chunk_numbered}
use Rattle.grid_versions.specs.inner.Tables.{Tables, AreTables, region_counts, region_in, number_in}
use Rattle.nav_types.proofs.Regions.{lies_in, one_region}
use Rattle.grid_versions.proofs.ChunkLemmas.{place_below, numbered-place, place-numbered, one_place, chunk_inside, passes_own, item_at}

-- the number of regions of a chunk with labels
pub count_at : (tables : Tables) (place : ℕ) (labels : Labelling) → slice_get tables.labels place ≡ Some labels
    → get_or (region_counts tables) place 0 ≡ length labels.firsts
count_at tables place labels at =
    let count = λ (one : Labelling). length one.firsts in
    get_or_from_slice_get (region_counts tables) place (length labels.firsts) 0
    (slice_get-map count tables.labels place ∙ ap (λ o. option_map count o) at)

-- what the labels of a cell's chunk say of the cell
pub record HasPlace (passes : Cell → Bool) (size : Size) (tables : Tables) (cell : Cell) : Type 0 where
  pub labels : Labelling
  pub at : slice_get tables.labels (chunk_place size (chunk_of cell)) ≡ Some labels
  pub are : AreLabels passes size (chunk_of cell) labels
  pub inside : IsInRect labels.cells.rect cell
  pub number : (region_in size tables cell).region ≡ number_of labels.cells cell

module _ (passes : Cell → Bool) (size : Size) (tables : Tables) (are : AreTables passes size tables) where
  pub has_place : (cell : Cell) → IsInside size cell → HasPlace passes size tables cell
  has_place cell inside =
      let chunk = chunk_of cell in
      let chunk_in = chunk_inside size cell inside in
      let place = chunk_place size chunk in
      let item = item_at size (chunk_count size) (λ chunk labels. AreLabels passes size chunk labels) tables.labels are.labels_are place (place_below size chunk chunk_in) in
      let labels = item.0 in
      let own : AreLabels passes size chunk labels = subst (λ (c : Chunk). AreLabels passes size c labels) (numbered-place size chunk chunk_in)
      (are.labels_are.are place labels item.1) in
      record {
        labels = labels;
        at = item.1;
        are = own;
        inside = subst (λ (rect : Rect). IsInRect rect cell) (sym own.extent) (in_rect size chunk cell inside refl refl);
        number = ap (λ o. number_in o cell) item.1;
      }

  -- the region of a cell has the cell's number in its chunk
  pub has_region : (cell : Cell) → IsInside size cell → HasRegion passes (chunk_of cell) cell (region_in size tables cell).region
  has_region cell inside =
      let has = has_place cell inside in
      subst (λ (n : ℕ). HasRegion passes (chunk_of cell) cell n) (sym has.number) (has.are.numbers cell has.inside)

  -- the region of a passable cell exists
  pub region_exists : (cell : Cell) → IsInside size cell → IsTrue (passes cell) → IsRegion (region_counts tables) (region_in size tables cell)
  region_exists cell inside passable =
      let has = has_place cell inside in
      let placed = AreLabels-placed passes size (chunk_of cell) has.labels has.are cell has.inside (passes_own passes cell passable) in
      let number = has.number in
      let value = placed.1.1.1.1 in
      let count = count_at tables (chunk_place size (chunk_of cell)) has.labels has.at in
      let most = AreLabels-at_most passes size (chunk_of cell) has.labels has.are cell has.inside in
      record {
        chunk = omega (arith, slice_get_within tables.labels (chunk_place size (chunk_of cell)) has.labels has.at, length-map tables.labels (λ (one : Labelling). length one.firsts));
        first = omega arith;
        last = omega arith;
      }

  -- the labels at the place of a cell's chunk have the cell
  pub labels_have : (cell : Cell) (labels : Labelling) → IsInside size cell → slice_get tables.labels (chunk_place size (chunk_of cell)) ≡ Some labels
      → IsInRect labels.cells.rect cell
  labels_have cell labels inside at =
      let has = has_place cell inside in
      subst (λ (one : Labelling). IsInRect one.cells.rect cell) (same_Some has.labels labels (sym has.at ∙ at)) has.inside

  -- a cell's region number is at most the number of regions of its chunk
  pub region_at_most : (cell : Cell) → IsInside size cell
      → (region_in size tables cell).region ≤ get_or tables.areas.regions (chunk_place size (chunk_of cell)) 0
  region_at_most cell inside =
      let has = has_place cell inside in
      let number = has.number in
      let place = chunk_place size (chunk_of cell) in
      let most = AreLabels-at_most passes size (chunk_of cell) has.labels has.are cell has.inside in
      let count = ap (λ (counts : List ℕ). get_or counts place 0) are.areas_are.regions_are ∙ count_at tables place has.labels has.at in
      omega arith

  -- the areas have a number of regions for each chunk
  pub areas_long : length tables.areas.regions ≡ chunk_count size
  areas_long =
      ap length are.areas_are.regions_are ∙ length-map tables.labels (λ (one : Labelling). length one.firsts) ∙ are.labels_are.each

  -- passable cells of one region lie in one chunk
  pub one_chunk : (a b : Cell) → IsInside size a → IsInside size b → region_in size tables a ≡ region_in size tables b → chunk_of a ≡ chunk_of b
  one_chunk a b a_in b_in same =
      one_place size (chunk_of a) (chunk_of b) (chunk_inside size a a_in) (chunk_inside size b b_in) (ap (λ (id : RegionId). id.chunk) same)

  passes_there : (a b : Cell) → chunk_of a ≡ chunk_of b → IsTrue (passes b) → IsTrue (passes_in passes (chunk_of a) b)
  passes_there a b same passable =
      subst (λ (chunk : Chunk). IsTrue (passes_in passes chunk b)) (sym same) (passes_own passes b passable)

  region_there : (a b : Cell) → IsInside size b → chunk_of a ≡ chunk_of b → HasRegion passes (chunk_of a) b (region_in size tables b).region
  region_there a b b_in same =
      subst (λ (chunk : Chunk). HasRegion passes chunk b (region_in size tables b).region) (sym same) (has_region b b_in)

  -- passable cells of one region are joined inside their chunk
  pub joined_from_same : (a b : Cell) → IsInside size a → IsInside size b → IsTrue (passes a) → IsTrue (passes b)
      → region_in size tables a ≡ region_in size tables b → InOneRegion passes (chunk_of a) a b
  joined_from_same a b a_in b_in a_passes b_passes same =
      let chunks = one_chunk a b a_in b_in same in
      let P = passes_in passes (chunk_of a) in
      let number : (region_in size tables a).region ≡ (region_in size tables b).region = ap (λ (id : RegionId). id.region) same in
      HasNumber-same P (InOneRegion passes (chunk_of a)) IsBefore (JoinedStraight-sym P) (JoinedStraight-trans P) IsBefore-asym
      a b (region_in size tables b).region (passes_own passes a a_passes) (passes_there a b chunks b_passes)
      (subst (λ (n : ℕ). HasRegion passes (chunk_of a) a n) number (has_region a a_in)) (region_there a b b_in chunks)

  -- passable cells that are joined inside one chunk are of one region
  pub same_from_joined : (a b : Cell) → IsInside size a → IsInside size b → IsTrue (passes a) → IsTrue (passes b)
      → chunk_of a ≡ chunk_of b → InOneRegion passes (chunk_of a) a b → region_in size tables a ≡ region_in size tables b
  same_from_joined a b a_in b_in a_passes b_passes chunks joined =
      let P = passes_in passes (chunk_of a) in
      let both = HasNumber-together P (InOneRegion passes (chunk_of a)) IsBefore (JoinedStraight-sym P) (JoinedStraight-trans P) IsBefore-asym IsBefore-cases
      a b (region_in size tables a).region (region_in size tables b).region (passes_own passes a a_passes) (passes_there a b chunks b_passes)
      (has_region a a_in) (region_there a b b_in chunks) in
      same_region (region_in size tables a) (region_in size tables b) (ap (λ (chunk : Chunk). chunk_place size chunk) chunks) (both.1 joined)

-- the first cell of a region
pub record HasFirst (passes : Cell → Bool) (size : Size) (tables : Tables) (id : RegionId) : Type 0 where
  pub labels : Labelling
  pub at : slice_get tables.labels id.chunk ≡ Some labels
  pub are : AreLabels passes size (chunk_numbered size id.chunk) labels
  pub cell : Cell
  pub found : slice_get labels.firsts (id.region - 1) ≡ Some cell
  pub first : IsFirst (passes_in passes (chunk_numbered size id.chunk)) (InOneRegion passes (chunk_numbered size id.chunk)) IsBefore cell
  pub passable : IsTrue (passes cell)
  pub in_chunk : chunk_of cell ≡ chunk_numbered size id.chunk
  pub region_is : region_in size tables cell ≡ id

module _ (passes : Cell → Bool) (size : Size) (tables : Tables) (inside : PassesInside passes size) (are : AreTables passes size tables) where
  -- each region that exists has a first cell
  pub has_first : (id : RegionId) → IsRegion (region_counts tables) id → HasFirst passes size tables id
  has_first id exists =
      let listed = exists.chunk in let low = exists.first in let high = exists.last in
      let long = length-map tables.labels (λ (one : Labelling). length one.firsts) in
      let each = are.labels_are.each in
      let item = item_at size (chunk_count size) (λ chunk labels. AreLabels passes size chunk labels) tables.labels are.labels_are id.chunk (omega arith) in
      let labels = item.0 in
      let chunk = chunk_numbered size id.chunk in
      let own = are.labels_are.are id.chunk labels item.1 in
      let count = count_at tables id.chunk labels item.1 in
      let within : id.region - 1 < length labels.firsts = omega arith in
      let some : (cell : Cell) × (slice_get labels.firsts (id.region - 1) ≡ Some cell) = elim (slice_get_cases labels.firsts (id.region - 1)).1 [
        | inl here ↦ (here.0, here.2)
        | inr past ↦ absurd (omega (arith, past.0))
      ] in
      let cell = some.0 in
      let P = passes_in passes chunk in
      let first = own.first_cells.each cell (Contains-from_slice_get labels.firsts (id.region - 1) cell some.1) in
      let lies = lies_in passes chunk cell first.passable in
      let number : HasRegion passes chunk cell ((id.region - 1) + 1) = record {
        blocked = λ shut. absurd (both_ways (P cell) shut first.passable);
        placed = λ _. (labels.firsts, (own.first_cells, (id.region - 1, (cell, (some.1, (JoinedStraight-refl P cell, refl))))));
      } in
      let by_tables : HasRegion passes chunk cell (region_in size tables cell).region =
      subst (λ (c : Chunk). HasRegion passes c cell (region_in size tables cell).region) lies.in_chunk (has_region passes size tables are cell (inside cell lies.passable)) in
      let value = one_region passes chunk cell (region_in size tables cell).region ((id.region - 1) + 1) by_tables number in
      record {
        labels = labels;
        at = item.1;
        are = own;
        cell = cell;
        found = some.1;
        first = first;
        passable = lies.passable;
        in_chunk = lies.in_chunk;
        region_is = same_region (region_in size tables cell) id
            (ap (λ (c : Chunk). chunk_place size c) lies.in_chunk ∙ place-numbered size id.chunk) (omega arith);
      }
