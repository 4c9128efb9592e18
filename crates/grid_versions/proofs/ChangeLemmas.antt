-- What stays where two maps agree: regions and edges look at the cells of their chunks alone.
use Rattle.std.proofs.Common.{ℕ, ◌≡◌, ◌≢◌, ◌+◌, ◌<◌, ◌≤◌, ◌*◌, ◌/◌, ◌==◌, ◌&&◌, ◌↔◌, ◌⊎◌, Bool, true, false, cond, List, length, map, sum, take, get_or, option_map, refl, inl, inr, ap, sym, subst, ◌∙◌, arith, Some}
use Rattle.std.specs.Prelude.{IsTrue, IsFalse, slice_get}
use Rattle.std.specs.List.{count_by, sum_by, Contains}
use Rattle.std.proofs.lemmas.Bool.{and_parts, eqb-true, cases_lt}
use Rattle.std.proofs.lemmas.List.Sums.{sum_by-take-le, sum-map}
use Rattle.std.proofs.lemmas.Option.{slice_get-map, slice_get-get_or}
use Rattle.nav_types.specs.declared.cells.Cell.{Cell}
use Rattle.nav_types.specs.declared.cells.Chunk.{Chunk}
use Rattle.nav_types.specs.declared.cells.Size.{Size}
use Rattle.nav_types.specs.Cells.{chunk_of, IsBefore}
use Rattle.nav_types.specs.Counting.{AreFirsts, HasNumber}
use Rattle.nav_types.specs.Regions.{passes_in, JoinedStraight, HasRegion, IsEdge}
use Rattle.nav_types.proofs.CellOrder.{same_chunk}
use Rattle.nav_types.specs.Numbering.{number_of}
use Rattle.chunk_regions.specs.Labelling.{Labelling, AreLabels}
use Rattle.lane_rows.specs.Rows.{has_class}
use Rattle.region_edges.specs.declared.neighbours.ChunkSide.{ChunkSide}
use Rattle.region_edges.specs.declared.neighbours.ChunkSide.TheVariants.{East, North}
use Rattle.region_edges.specs.Edges.{PassesInside, AreEdges}
use Rattle.reach_sets.specs.AreaNumbers.{AreaNumbers, AreAreas}
use Rattle.grid_versions.specs.Chunks.{chunk_count, chunk_place}
use Rattle.grid_versions.specs.inner.ChunkLists.{chunk_numbered, neighbour_on, IsChunkInside}
use Rattle.grid_versions.specs.inner.Building.{IsSideLink, AreSides}
use Rattle.grid_versions.specs.inner.Tables.{Tables, AreTables, HasTotals, label_counts, region_counts}
use Rattle.grid_versions.specs.inner.Tallying.{Differs}
use Rattle.grid_versions.specs.inner.Changing.{AgreeInChunk, AreChanges}
use Rattle.grid_versions.proofs.ChunkLemmas.{chunk_inside, place_below, numbered-place, item_at}
use Rattle.grid_versions.proofs.TallyLemmas.{differing_inside}
use Rattle.grid_versions.proofs.BuildLemmas.{sum_more, sides_linked, links_are}
use Rattle.grid_versions.proofs.VersionLemmas.{sum_each}

-- ---- where two maps agree on a chunk, the same cells pass in it

both_and : (here x y : Bool) → (here ≡ true → x ≡ y) → (here && x) ≡ (here && y)
both_and true x y same = same refl
both_and false x y same = refl

pub same_in : (before now : Cell → Bool) (chunk : Chunk) → AgreeInChunk before now chunk → passes_in before chunk ≡ passes_in now chunk
same_in before now chunk agree = λ i cell.
    both_and ((cell.i / 96 == chunk.ci) && (cell.j / 96 == chunk.cj)) (before cell) (now cell)
    (λ here. let place = and_parts (cell.i / 96 == chunk.ci) (cell.j / 96 == chunk.cj) here in
    agree cell (same_chunk (chunk_of cell) chunk (eqb-true (cell.i / 96) chunk.ci place.0) (eqb-true (cell.j / 96) chunk.cj place.1))) i

-- a region's number looks at the cells that pass in the chunk
pub same_region_number : (before now : Cell → Bool) (chunk : Chunk) (cell : Cell) (number : ℕ) → passes_in before chunk ≡ passes_in now chunk
    → HasRegion before chunk cell number → HasRegion now chunk cell number
same_region_number before now chunk cell number same has =
    subst (λ (P : Cell → Bool). HasNumber P (JoinedStraight P) IsBefore cell number) same has

pub labels_stay : (before now : Cell → Bool) (size : Size) (chunk : Chunk) (labels : Labelling) → AgreeInChunk before now chunk
    → AreLabels before size chunk labels → AreLabels now size chunk labels
labels_stay before now size chunk labels agree are =
    let same = same_in before now chunk agree in
    record {
      of_chunk = are.of_chunk;
      extent = are.extent;
      numbers = λ cell inside. same_region_number before now chunk cell (number_of labels.cells cell) same (are.numbers cell inside);
      first_cells = subst (λ (P : Cell → Bool). AreFirsts P (JoinedStraight P) IsBefore labels.firsts) same are.first_cells;
    }

edge_stays : (before now : Cell → Bool) (here there : Chunk) (near far : ℕ) → passes_in before here ≡ passes_in now here
    → passes_in before there ≡ passes_in now there → IsEdge before here there near far → IsEdge now here there near far
edge_stays before now here there near far same_here same_there edge = record {
  from = edge.from;
  to = edge.to;
  beside = edge.beside;
  from_passes = subst (λ (P : Cell → Bool). IsTrue (P edge.from)) same_here edge.from_passes;
  to_passes = subst (λ (P : Cell → Bool). IsTrue (P edge.to)) same_there edge.to_passes;
  from_region = same_region_number before now here edge.from near same_here edge.from_region;
  to_region = same_region_number before now there edge.to far same_there edge.to_region;
}

pub edges_stay : (before now : Cell → Bool) (here there : Chunk) (edges : List (ℕ × ℕ)) → AgreeInChunk before now here → AgreeInChunk before now there
    → AreEdges before here there edges → AreEdges now here there edges
edges_stay before now here there edges agree_here agree_there are =
    let same_here = same_in before now here agree_here in
    let same_there = same_in before now there agree_there in
    record {
      each = λ near far listed. edge_stays before now here there near far same_here same_there (are.each near far listed);
      all = λ near far edge. are.all near far (edge_stays now before here there near far (sym same_here) (sym same_there) edge);
      rising = are.rising;
    }

-- ---- where the marks say that two maps agree

pub same_unless : (x y : Bool) → ((x ≢ y) → ⊥) → x ≡ y
same_unless true true not_apart = refl
same_unless true false not_apart = absurd (not_apart (λ same. absurd (cc)))
same_unless false true not_apart = absurd (not_apart (λ same. absurd (cc)))
same_unless false false not_apart = refl

-- a chunk without a mark
pub unmarked_agrees : (before now : Cell → Bool) (size : Size) (class : ℕ) (bits : List ℕ) (place : ℕ) (mark : Bool) → AreChanges before now size class bits
    → slice_get (map (has_class class) bits) place ≡ Some mark → IsFalse mark → AgreeInChunk before now (chunk_numbered size place)
unmarked_agrees before now size class bits place mark changes at unmarked cell here =
    same_unless (before cell) (now cell) (λ apart.
    let marked : IsTrue mark = (changes.marks.are place mark at).1 (cell, (here, apart)) in
    absurd (cc))

-- a chunk outside both maps
pub outside_agrees : (before now : Cell → Bool) (size : Size) (class : ℕ) (bits : List ℕ) (chunk : Chunk) → AreChanges before now size class bits
    → (IsChunkInside size chunk → ⊥) → AgreeInChunk before now chunk
outside_agrees before now size class bits chunk changes outside cell here =
    same_unless (before cell) (now cell) (λ apart.
    outside (subst (λ (c : Chunk). IsChunkInside size c) here
    (chunk_inside size cell (differing_inside before now size changes.before_inside changes.now_inside cell apart))))

-- a neighbour past the last place has no cell in the maps
pub beyond_outside : (size : Size) (side : ChunkSide) (place next : ℕ) → chunk_place size (neighbour_on side (chunk_numbered size place)) ≡ next
    → chunk_count size ≤ next → IsChunkInside size (neighbour_on side (chunk_numbered size place)) → ⊥
beyond_outside size side place next is past inside =
    let low = place_below size (neighbour_on side (chunk_numbered size place)) inside in omega arith

-- a neighbour without a mark, which may lie outside both maps
pub neighbour_agrees : (before now : Cell → Bool) (size : Size) (class : ℕ) (bits : List ℕ) (side : ChunkSide) (place next : ℕ) (mark : Bool)
    → AreChanges before now size class bits → chunk_place size (neighbour_on side (chunk_numbered size place)) ≡ next
    → slice_get (map (has_class class) bits) next ≡ Some mark → IsFalse mark → AgreeInChunk before now (neighbour_on side (chunk_numbered size place))
neighbour_agrees before now size class bits side place next mark changes is at unmarked =
    let there = neighbour_on side (chunk_numbered size place) in
    elim (cases_lt (96 * there.ci) size.w) [
      | inl column ↦ elim (cases_lt (96 * there.cj) size.h) [
        | inl row ↦
            let inside : IsChunkInside size there = record { column = column; row = row } in
            let same : chunk_numbered size next ≡ there = ap (λ (k : ℕ). chunk_numbered size k) (sym is) ∙ numbered-place size there inside in
            subst (λ (chunk : Chunk). AgreeInChunk before now chunk) same (unmarked_agrees before now size class bits next mark changes at unmarked)
        | inr past ↦ outside_agrees before now size class bits there changes (λ inside. let row = inside.row in omega arith)
      ]
      | inr past ↦ outside_agrees before now size class bits there changes (λ inside. let column = inside.column in omega arith)
    ]

-- where no chunk has a mark, the maps agree
unmarked_of : (mark : Bool) → cond mark 1 0 < 1 → IsFalse mark
unmarked_of true none = absurd (omega arith)
unmarked_of false none = refl

none_marked : (marks : List Bool) (place : ℕ) (mark : Bool) → count_by (λ m. m) marks ≡ 0 → slice_get marks place ≡ Some mark → IsFalse mark
none_marked marks place mark none at =
    let more = sum_more (λ (m : Bool). cond m 1 0) marks place mark at in
    unmarked_of mark (omega (arith, more.0, more.1))

pub agree_everywhere : (before now : Cell → Bool) (size : Size) (class : ℕ) (bits : List ℕ) → AreChanges before now size class bits
    → count_by (has_class class) bits ≡ 0 → before ≡ now
agree_everywhere before now size class bits changes none = λ i cell.
    same_unless (before cell) (now cell) (λ apart.
    let inside = differing_inside before now size changes.before_inside changes.now_inside cell apart in
    let chunk_in = chunk_inside size cell inside in
    let place = chunk_place size (chunk_of cell) in
    let item = item_at size (chunk_count size) (λ chunk mark. IsTrue mark ↔ Differs before now chunk) (map (has_class class) bits) changes.marks
    place (place_below size (chunk_of cell) chunk_in) in
    let unmarked = none_marked (map (has_class class) bits) place item.0 (sum_each (λ (m : Bool). cond m 1 0) (has_class class) bits ∙ none) item.1 in
    apart (unmarked_agrees before now size class bits place item.0 changes item.1 unmarked cell (sym (numbered-place size (chunk_of cell) chunk_in)))) i

pub tables_stay : (before now : Cell → Bool) (size : Size) (class : ℕ) (bits : List ℕ) (tables : Tables) → AreChanges before now size class bits
    → count_by (has_class class) bits ≡ 0 → AreTables before size tables → AreTables now size tables
tables_stay before now size class bits tables changes none are =
    subst (λ (P : Cell → Bool). AreTables P size tables) (agree_everywhere before now size class bits changes none) are

-- the areas stay with the numbers of regions and the edges
pub areas_stay : (before now : Cell → Bool) (size : Size) (old new : Tables) → PassesInside before size → AreTables before size old
    → AreSides now size new.labels new.east new.north → region_counts new ≡ region_counts old → new.east ≡ old.east → new.north ≡ old.north
    → new.areas ≡ old.areas → AreTables now size new
areas_stay before now size old new inside were sides counts east north areas =
    let links = were.links in
    record {
      labels_are = sides.labels_are;
      east_are = sides.east_are;
      north_are = sides.north_are;
      links = links;
      links_are = links_are now size new.east new.north links sides.inside sides.east_are sides.north_are
          (λ link.
          subst (λ (all : List (List (ℕ × ℕ))). Contains links link ↔ (IsSideLink size East all link ⊎ IsSideLink size North new.north link)) (sym east)
          (subst (λ (all : List (List (ℕ × ℕ))). Contains links link ↔ (IsSideLink size East old.east link ⊎ IsSideLink size North all link)) (sym north)
          (sides_linked before size old.east old.north links inside were.east_are were.north_are were.links_are link)));
      areas_are = subst (λ (table : AreaNumbers). AreAreas (region_counts new) links table) (sym areas)
          (subst (λ (numbers : List ℕ). AreAreas numbers links old.areas) (sym counts) were.areas_are);
    }

-- so do the numbers of all regions and edges
pub totals_stay : (old : Tables) (labels : List Labelling) (east north : List (List (ℕ × ℕ))) (areas : AreaNumbers) (regions edges : ℕ)
    → HasTotals old regions edges → label_counts labels ≡ region_counts old → east ≡ old.east → north ≡ old.north
    → HasTotals (record { labels = labels; east = east; north = north; areas = areas }) regions edges
totals_stay old labels east north areas regions edges has counts same_east same_north =
    let count = λ (one : Labelling). length one.firsts in
    let total : sum_by count labels ≡ sum_by count old.labels = sym (sum-map count labels) ∙ ap (λ (xs : List ℕ). sum xs) counts ∙ sum-map count old.labels in
    let to_east : sum_by length east ≡ sum_by length old.east = ap (λ (all : List (List (ℕ × ℕ))). sum_by length all) same_east in
    let to_north : sum_by length north ≡ sum_by length old.north = ap (λ (all : List (List (ℕ × ℕ))). sum_by length all) same_north in
    let few = has.few in
    let few_regions = few.regions in
    let few_edges = few.edges in
    let regions_are = has.regions_are in
    let edges_are = has.edges_are in
    record {
      few = record { regions = omega arith; edges = omega arith };
      regions_are = omega arith;
      edges_are = omega arith;
    }

-- ---- one place more

-- the marks of a class before a place, and those of all places
pub marks_more : (class : ℕ) (bits : List ℕ) (place old now start : ℕ) → place < length bits
    → ((mark : Bool) → slice_get (map (has_class class) bits) place ≡ Some mark → now ≤ old + cond mark 1 0)
    → old ≤ start + count_by (has_class class) (take place bits) → now ≤ start + count_by (has_class class) (take (place + 1) bits)
marks_more class bits place old now start low step so_far =
    let set = get_or bits place 0 in
    let at : slice_get bits place ≡ Some set = slice_get-get_or bits place 0 low in
    let mark_at : slice_get (map (has_class class) bits) place ≡ Some (has_class class set) =
    slice_get-map (has_class class) bits place ∙ ap (λ o. option_map (has_class class) o) at in
    let more = sum_more (λ (b : ℕ). cond (has_class class b) 1 0) bits place set at in
    omega (arith, step (has_class class set) mark_at, more.0)

pub marks_most : (class : ℕ) (bits : List ℕ) (place : ℕ) → count_by (has_class class) (take place bits) ≤ count_by (has_class class) bits
marks_most class bits place = sum_by-take-le (λ (b : ℕ). cond (has_class class b) 1 0) bits place
