-- From labels and edges to the tables of a class.
use Rattle.std.proofs.Common.{ℕ, ◌≡◌, ◌+◌, ◌*◌, ◌<◌, ◌≤◌, ◌⊎◌, ◌↔◌, Bool, List, [], ◌∷◌, ◌++◌, IsTrue, length, map, take, get_or, sum, refl, ap, inl, inr, sym, subst, ◌∙◌, arith, Some, option_map}
use Rattle.std.specs.List.{AllPairs, All, Contains, sum_by, slice_get}
use Rattle.std.proofs.lemmas.List.{length-map, map_more}
use Rattle.std.proofs.lemmas.Bool.{cases_lt}
use Rattle.std.proofs.lemmas.Nat.{mul-le}
use Rattle.std.proofs.lemmas.List.Sums.{sum_by-le, sum_by_more, sum_by-take-le, sum-map}
use Rattle.std.proofs.lemmas.List.Elements.{Contains-append_left, Contains-append_right, Contains-append_cases, Contains-get_or}
use Rattle.std.proofs.lemmas.Option.{slice_get-map, slice_get_within, get_or_from_slice_get, slice_get-get_or, same_Some}
use Rattle.nav_types.specs.declared.cells.Cell.{Cell}
use Rattle.nav_types.specs.declared.cells.Chunk.{Chunk}
use Rattle.nav_types.specs.declared.cells.Rect.{Rect}
use Rattle.nav_types.specs.declared.cells.Size.{Size}
use Rattle.nav_types.specs.Cells.{IsInside, IsInRect}
use Rattle.nav_types.specs.Regions.{passes_in, HasRegion, IsNextChunk, IsEdge}
use Rattle.nav_types.specs.Numbering.{number_of}
use Rattle.chunk_regions.specs.Labelling.{Labelling, AreLabels}
use Rattle.nav_types.specs.Rects.{chunk_rect}
use Rattle.nav_types.proofs.CellOrder.{same_chunk}
use Rattle.chunk_regions.proofs.LabelLemmas.{in_rect, AreLabels-placed, AreLabels-at_most}
use Rattle.region_edges.specs.declared.neighbours.ChunkSide.{ChunkSide}
use Rattle.region_edges.specs.declared.neighbours.ChunkSide.TheVariants.{East, North}
use Rattle.region_edges.specs.Edges.{LiesOn, AreNeighbours, PassesInside, IsPairBefore, AreEdges}
use Rattle.reach_sets.specs.declared.regions.RegionId.{RegionId}
use Rattle.reach_sets.specs.RegionOrder.{IsRegion}
use Rattle.reach_sets.specs.AreaNumbers.{AreaNumbers}
use Rattle.reach_sets.proofs.RowLemmas.{same_region}
use Rattle.grid_versions.specs.Chunks.{chunk_columns, chunk_rows, chunk_count, chunk_place}
use Rattle.grid_versions.specs.inner.ChunkLists.{chunk_numbered, IsChunkInside, east_of, north_of, neighbour_on}
use Rattle.grid_versions.specs.inner.Tables.{label_counts, HaveEdge, AreLinks, AreAllLabels, AreAllEdges, AreFew}
use Rattle.grid_versions.specs.inner.Building.{IsLaidOut, link_between, IsSideLink}
use Rattle.nav_types.proofs.Items.{same_pair, from_map, Contains-map, AllPairs-map, AllPairs-tail, head_apart, Contains-head, Contains-tail, Contains-none}
use Rattle.nav_types.proofs.Regions.{lies_in, one_region}
use Rattle.grid_versions.proofs.ChunkLemmas.{place_below, numbered-place, place-numbered, chunk_inside, item_at, AreOfChunks-at, AreOfChunks-weaker}

-- ---- neighbours

pub laid_out : (passes : Cell → Bool) (size : Size) (labels : List Labelling)
    → AreAllLabels passes size labels → IsLaidOut size labels
laid_out passes size labels of =
    AreOfChunks-weaker size (chunk_count size) (λ chunk one. AreLabels passes size chunk one)
    (λ chunk one. (one.chunk ≡ chunk) × (one.cells.rect ≡ chunk_rect size chunk)) labels
    (λ chunk one own. (own.of_chunk, own.extent)) of

pub lies_beyond : (side : ChunkSide) (chunk : Chunk) → LiesOn side chunk (neighbour_on side chunk)
lies_beyond East chunk = (refl, refl)
lies_beyond North chunk = (refl, refl)

-- the labels of a chunk and of its neighbour on a side are labels of neighbours
pub are_neighbours : (side : ChunkSide) (size : Size) (labels : List Labelling) (place to : ℕ) (here there : Chunk) (near far : Labelling)
    → IsLaidOut size labels → here ≡ chunk_numbered size place → there ≡ neighbour_on side here → IsChunkInside size there → to ≡ chunk_place size there
    → slice_get labels place ≡ Some near → slice_get labels to ≡ Some far → AreNeighbours side near far
are_neighbours side size labels place to here there near far laid here_is there_is inside to_is near_at far_at =
    let near_of = laid.are place near near_at in
    let far_of = laid.are to far far_at in
    let near_chunk : near.chunk ≡ here = near_of.0 ∙ sym here_is in
    let far_chunk : far.chunk ≡ there = far_of.0 ∙ ap (λ (k : ℕ). chunk_numbered size k) to_is ∙ numbered-place size there inside in
    let far_in : IsChunkInside size far.chunk = subst (λ (chunk : Chunk). IsChunkInside size chunk) (sym far_chunk) inside in
    record {
      size = size;
      lies = subst (λ (chunk : Chunk). LiesOn side near.chunk chunk) (sym (far_chunk ∙ there_is ∙ ap (λ (chunk : Chunk). neighbour_on side chunk) (sym near_chunk)))
          (lies_beyond side near.chunk);
      columns = far_in.column;
      rows = far_in.row;
      here_extent = near_of.1 ∙ ap (λ (chunk : Chunk). chunk_rect size chunk) (sym near_of.0);
      there_extent = far_of.1 ∙ ap (λ (chunk : Chunk). chunk_rect size chunk) (sym far_of.0);
    }

-- what `between` makes of them
pub edges_between : (side : ChunkSide) (size : Size) (labels : List Labelling) (place to : ℕ) (here there : Chunk) (near far : Labelling)
    → IsLaidOut size labels → here ≡ chunk_numbered size place → there ≡ neighbour_on side here → IsChunkInside size there → to ≡ chunk_place size there
    → slice_get labels place ≡ Some near → slice_get labels to ≡ Some far → (edges : List (ℕ × ℕ))
    → ((passes : Cell → Bool) (size : Size) → PassesInside passes size → AreLabels passes size near.chunk near → AreLabels passes size far.chunk far
    → AreEdges passes near.chunk far.chunk edges)
    → (passes : Cell → Bool) → PassesInside passes size
    → AreAllLabels passes size labels
    → AreEdges passes (chunk_numbered size place) (neighbour_on side (chunk_numbered size place)) edges
edges_between side size labels place to here there near far laid here_is there_is inside to_is near_at far_at edges made passes passes_inside of =
    let near_of = laid.are place near near_at in
    let far_of = laid.are to far far_at in
    let far_chunk : far.chunk ≡ neighbour_on side (chunk_numbered size place) =
    far_of.0 ∙ ap (λ (k : ℕ). chunk_numbered size k) to_is ∙ numbered-place size there inside ∙ there_is ∙ ap (λ (chunk : Chunk). neighbour_on side chunk) here_is in
    let near_labels = subst (λ (chunk : Chunk). AreLabels passes size chunk near) (sym near_of.0) (of.are place near near_at) in
    let far_labels = subst (λ (chunk : Chunk). AreLabels passes size chunk far) (sym far_of.0) (of.are to far far_at) in
    subst (λ (chunk : Chunk). AreEdges passes chunk (neighbour_on side (chunk_numbered size place)) edges) near_of.0
    (subst (λ (chunk : Chunk). AreEdges passes near.chunk chunk edges) far_chunk (made passes size passes_inside near_labels far_labels))

-- ---- links

-- two links of the same parts are one
same_link : (a b : RegionId × RegionId) → a.0.chunk ≡ b.0.chunk → a.0.region ≡ b.0.region → a.1.chunk ≡ b.1.chunk → a.1.region ≡ b.1.region → a ≡ b
same_link a b here near there far = same_pair a b (same_region a.0 b.0 here near) (same_region a.1 b.1 there far)

-- one chunk more on a side
pub side_links_more : (size : Size) (side : ChunkSide) (all : List (List (ℕ × ℕ))) (start old new : List (RegionId × RegionId)) (place step : ℕ) (edges : List (ℕ × ℕ))
    → slice_get all place ≡ Some edges → chunk_place size (neighbour_on side (chunk_numbered size place)) ≡ place + step
    → new ≡ old ++ map (link_between place (place + step)) edges
    → ((link : RegionId × RegionId) → Contains old link ↔ (Contains start link ⊎ ((link.0.chunk < place) × IsSideLink size side all link)))
    → (link : RegionId × RegionId) → Contains new link ↔ (Contains start link ⊎ ((link.0.chunk < place + 1) × IsSideLink size side all link))
side_links_more size side all start old new place step edges at to made so_far link =
    let made_of = map (link_between place (place + step)) edges in
    let Now : Type 0 = Contains start link ⊎ ((link.0.chunk < place + 1) × IsSideLink size side all link) in (
      λ has. elim (Contains-append_cases old made_of link (subst (λ (links : List (RegionId × RegionId)). Contains links link) made has)) [
        | inl before ↦ elim ((so_far link).0 before) [
          | inl first ↦ inl first
          | inr side_link ↦ inr (omega (arith, side_link.0), side_link.1)
        ]
        | inr here ↦
            let from = from_map (link_between place (place + step)) edges link here in
            let is : IsSideLink size side all (link_between place (place + step) from.0) = record { edges = edges; at = at; listed = from.1.0; to = sym to } in
            inr (
              let chunk : place ≡ link.0.chunk = ap (λ (l : RegionId × RegionId). l.0.chunk) from.1.1 in omega arith,
              subst (λ (l : RegionId × RegionId). IsSideLink size side all l) from.1.1 is,
            )
      ],
      λ is. subst (λ (links : List (RegionId × RegionId)). Contains links link) (sym made) (elim is [
        | inl first ↦ Contains-append_left old made_of link ((so_far link).1 (inl first))
        | inr on ↦ elim (cases_lt link.0.chunk place) [
          | inl before ↦ Contains-append_left old made_of link ((so_far link).1 (inr (before, on.1)))
          | inr last ↦
              let chunk : link.0.chunk ≡ place = omega (arith, on.0) in
              let same : on.1.edges ≡ edges = same_Some on.1.edges edges (sym on.1.at ∙ ap (λ (k : ℕ). slice_get all k) chunk ∙ at) in
              let there : link.1.chunk ≡ place + step = on.1.to ∙ ap (λ (k : ℕ). chunk_place size (neighbour_on side (chunk_numbered size k))) chunk ∙ to in
              let listed : Contains edges (link.0.region, link.1.region) = subst (λ (xs : List (ℕ × ℕ)). Contains xs (link.0.region, link.1.region)) same on.1.listed in
              let is_link : link_between place (place + step) (link.0.region, link.1.region) ≡ link =
              same_link (link_between place (place + step) (link.0.region, link.1.region)) link (sym chunk) refl (sym there) refl in
              Contains-append_right old made_of link
              (subst (λ (l : RegionId × RegionId). Contains made_of l) is_link (Contains-map (link_between place (place + step)) edges (link.0.region, link.1.region) listed))
        ]
      ]),
    )

-- all chunks of a side were read
pub side_links_all : (size : Size) (side : ChunkSide) (all : List (List (ℕ × ℕ))) (start links : List (RegionId × RegionId)) (place : ℕ) → length all ≤ place
    → ((link : RegionId × RegionId) → Contains links link ↔ (Contains start link ⊎ ((link.0.chunk < place) × IsSideLink size side all link)))
    → (link : RegionId × RegionId) → Contains links link ↔ (Contains start link ⊎ IsSideLink size side all link)
side_links_all size side all start links place end is link = (
  λ has. elim ((is link).0 has) [ inl first ↦ inl first | inr on ↦ inr on.1 ],
  λ has. (is link).1 (elim has [ inl first ↦ inl first | inr on ↦ inr (omega (arith, slice_get_within all link.0.chunk on.edges on.at), on) ]),
)

pub two_sides : {A : Type 0} (none one both : List A) (P Q : A → Type 0) → none ≡ []
    → ((x : A) → Contains one x ↔ (Contains none x ⊎ P x)) → ((x : A) → Contains both x ↔ (Contains one x ⊎ Q x))
    → (x : A) → Contains both x ↔ (P x ⊎ Q x)
two_sides none one both P Q empty first second x = (
  λ has. elim ((second x).0 has) [
    | inl before ↦ elim ((first x).0 before) [
      | inl start ↦ absurd (Contains-none x (subst (λ xs. Contains xs x) empty start))
      | inr p ↦ inl p
    ]
    | inr q ↦ inr q
  ],
  λ is. elim is [ inl p ↦ (second x).1 (inl ((first x).1 (inr p))) | inr q ↦ (second x).1 (inr q) ],
)

-- ---- links are the edges of the map

next_beyond : (side : ChunkSide) (chunk : Chunk) → IsNextChunk chunk (neighbour_on side chunk)
next_beyond East chunk = inl (refl, refl)
next_beyond North chunk = inr (refl, refl)

-- a link on a side is an edge
touch_from_link : (passes : Cell → Bool) (size : Size) (side : ChunkSide) (all : List (List (ℕ × ℕ)))
    → AreAllEdges side passes size all
    → (a b : RegionId) → IsSideLink size side all (a, b) → HaveEdge passes size a b
touch_from_link passes size side all of a b link =
    let here = chunk_numbered size a.chunk in
    record {
      here = here;
      there = neighbour_on side here;
      next = next_beyond side here;
      edge = (of.are a.chunk link.edges link.at).each a.region b.region link.listed;
      from = sym (place-numbered size a.chunk);
      to = link.to;
    }

link_from_touch : (passes : Cell → Bool) (size : Size) (side : ChunkSide) (all : List (List (ℕ × ℕ))) → PassesInside passes size
    → AreAllEdges side passes size all
    → (a b : RegionId) (touch : HaveEdge passes size a b) → neighbour_on side touch.here ≡ touch.there → IsSideLink size side all (a, b)
link_from_touch passes size side all inside of a b touch beyond_is =
    let edge = touch.edge in
    let lies = lies_in passes touch.here edge.from edge.from_passes in
    let here_in : IsChunkInside size touch.here = subst (λ (chunk : Chunk). IsChunkInside size chunk) lies.in_chunk (chunk_inside size edge.from (inside edge.from lies.passable)) in
    let chunk : chunk_numbered size a.chunk ≡ touch.here = ap (λ (k : ℕ). chunk_numbered size k) touch.from ∙ numbered-place size touch.here here_in in
    let there : neighbour_on side (chunk_numbered size a.chunk) ≡ touch.there = ap (λ (c : Chunk). neighbour_on side c) chunk ∙ beyond_is in
    let low = place_below size touch.here here_in in
    let from = touch.from in
    let item = item_at size (chunk_count size) (λ chunk edges. AreEdges passes chunk (neighbour_on side chunk) edges) all of a.chunk (omega arith) in
    let own = of.are a.chunk item.0 item.1 in
    let moved : IsEdge passes (chunk_numbered size a.chunk) (neighbour_on side (chunk_numbered size a.chunk)) a.region b.region =
    subst (λ (c : Chunk). IsEdge passes c (neighbour_on side (chunk_numbered size a.chunk)) a.region b.region) (sym chunk)
    (subst (λ (c : Chunk). IsEdge passes touch.here c a.region b.region) (sym there) edge) in
    record {
      edges = item.0;
      at = item.1;
      listed = own.all a.region b.region moved;
      to = touch.to ∙ ap (λ (c : Chunk). chunk_place size c) (sym there);
    }

pub links_are : (passes : Cell → Bool) (size : Size) (east north : List (List (ℕ × ℕ))) (links : List (RegionId × RegionId)) → PassesInside passes size
    → AreAllEdges East passes size east
    → AreAllEdges North passes size north
    → ((link : RegionId × RegionId) → Contains links link ↔ (IsSideLink size East east link ⊎ IsSideLink size North north link))
    → AreLinks passes size links
links_are passes size east north links inside east_of_all north_of_all is = record {
  each = λ a b listed. elim ((is (a, b)).0 listed) [
    | inl on ↦ touch_from_link passes size East east east_of_all a b on
    | inr on ↦ touch_from_link passes size North north north_of_all a b on
  ];
  all = λ a b touch. (is (a, b)).1 (elim touch.next [
    | inl on ↦ inl (link_from_touch passes size East east inside east_of_all a b touch (same_chunk (east_of touch.here) touch.there (sym on.0) (sym on.1)))
    | inr on ↦ inr (link_from_touch passes size North north inside north_of_all a b touch (same_chunk (north_of touch.here) touch.there (sym on.0) (sym on.1)))
  ]);
}

-- the other way round: the edges of the map are the listed edges on both sides
pub sides_linked : (passes : Cell → Bool) (size : Size) (east north : List (List (ℕ × ℕ))) (links : List (RegionId × RegionId)) → PassesInside passes size
    → AreAllEdges East passes size east
    → AreAllEdges North passes size north
    → AreLinks passes size links
    → (link : RegionId × RegionId) → Contains links link ↔ (IsSideLink size East east link ⊎ IsSideLink size North north link)
sides_linked passes size east north links inside east_of_all north_of_all are link = (
  λ listed.
      let touch = are.each link.0 link.1 listed in
      elim touch.next [
        | inl on ↦ inl (link_from_touch passes size East east inside east_of_all link.0 link.1 touch (same_chunk (east_of touch.here) touch.there (sym on.0) (sym on.1)))
        | inr on ↦ inr (link_from_touch passes size North north inside north_of_all link.0 link.1 touch (same_chunk (north_of touch.here) touch.there (sym on.0) (sym on.1)))
      ],
  λ on_side. elim on_side [
    | inl on ↦ are.all link.0 link.1 (touch_from_link passes size East east east_of_all link.0 link.1 on)
    | inr on ↦ are.all link.0 link.1 (touch_from_link passes size North north north_of_all link.0 link.1 on)
  ],
)

-- ---- numbers of regions

-- a passable cell's number is one of the labels' regions
number_listed : (passes : Cell → Bool) (size : Size) (chunk : Chunk) (labels : Labelling) (cell : Cell) (number : ℕ) → AreLabels passes size chunk labels
    → IsTrue (passes_in passes chunk cell) → IsInside size cell → HasRegion passes chunk cell number → (1 ≤ number) × (number ≤ length labels.firsts)
number_listed passes size chunk labels cell number are here inside has =
    let lies = lies_in passes chunk cell here in
    let within : IsInRect labels.cells.rect cell = subst (λ (rect : Rect). IsInRect rect cell) (sym are.extent)
    (in_rect size chunk cell inside (ap (λ (c : Chunk). c.ci) lies.in_chunk) (ap (λ (c : Chunk). c.cj) lies.in_chunk)) in
    let same : number_of labels.cells cell ≡ number = one_region passes chunk cell (number_of labels.cells cell) number (are.numbers cell within) has in
    let placed = AreLabels-placed passes size chunk labels are cell within here in
    let value = placed.1.1.1.1 in
    let most = AreLabels-at_most passes size chunk labels are cell within in
    (omega arith, omega arith)

-- the region of a number in a chunk exists where a cell has it
region_listed : (passes : Cell → Bool) (size : Size) (labels : List Labelling) (chunk : Chunk) (cell : Cell) (id : RegionId) → PassesInside passes size
    → AreAllLabels passes size labels → IsTrue (passes_in passes chunk cell)
    → HasRegion passes chunk cell id.region → id.chunk ≡ chunk_place size chunk → IsRegion (map (λ one. length one.firsts) labels) id
region_listed passes size labels chunk cell id inside of here has place_is =
    let count = λ (one : Labelling). length one.firsts in
    let lies = lies_in passes chunk cell here in
    let cell_in = inside cell lies.passable in
    let chunk_in : IsChunkInside size chunk = subst (λ (c : Chunk). IsChunkInside size c) lies.in_chunk (chunk_inside size cell cell_in) in
    let low = place_below size chunk chunk_in in
    let item = item_at size (chunk_count size) (λ chunk one. AreLabels passes size chunk one) labels of (chunk_place size chunk) low in
    let at : slice_get labels id.chunk ≡ Some item.0 = ap (λ (k : ℕ). slice_get labels k) place_is ∙ item.1 in
    let own = AreOfChunks-at size (chunk_count size) (λ chunk one. AreLabels passes size chunk one) labels chunk item.0 of chunk_in item.1 in
    let number = number_listed passes size chunk item.0 cell id.region own here cell_in has in
    let counted : get_or (map count labels) id.chunk 0 ≡ length item.0.firsts =
    get_or_from_slice_get (map count labels) id.chunk (length item.0.firsts) 0 (slice_get-map count labels id.chunk ∙ ap (λ o. option_map count o) at) in
    let first = number.0 in
    let last = number.1 in
    record {
      chunk = omega (arith, slice_get_within labels id.chunk item.0 at, length-map labels count);
      first = first;
      last = omega arith;
    }

pub links_exist : (passes : Cell → Bool) (size : Size) (labels : List Labelling) (links : List (RegionId × RegionId)) → PassesInside passes size
    → AreAllLabels passes size labels → AreLinks passes size links
    → All (λ link. IsRegion (map (λ one. length one.firsts) labels) link.0 × IsRegion (map (λ one. length one.firsts) labels) link.1) links
links_exist passes size labels links inside of are k d low =
    let link = get_or links k d in
    let touch = are.each link.0 link.1 (Contains-get_or links k d low) in
    let edge = touch.edge in (
      region_listed passes size labels touch.here edge.from link.0 inside of edge.from_passes edge.from_region touch.from,
      region_listed passes size labels touch.there edge.to link.1 inside of edge.to_passes edge.to_region touch.to,
    )

-- ---- sums are small

-- one item more of a sum
pub sum_more : {A : Type 0} (f : A → ℕ) (xs : List A) (at : ℕ) (x : A) → slice_get xs at ≡ Some x
    → (sum_by f (take (at + 1) xs) ≡ sum_by f (take at xs) + f x) × (sum_by f (take (at + 1) xs) ≤ sum_by f xs)
sum_more f xs at x is = (
  sum_by_more f xs at x (slice_get_within xs at x is) ∙ ap (λ y. sum_by f (take at xs) + f y) (get_or_from_slice_get xs at x x is),
  sum_by-take-le f xs (at + 1),
)

-- one item more of a mapped list
pub map_next : {A B : Type 0} (f : A → B) (xs : List A) (at : ℕ) (x : A) (y : B) (old new : List B) → slice_get xs at ≡ Some x → y ≡ f x
    → old ≡ map f (take at xs) → new ≡ old ++ y ∷ [] → new ≡ map f (take (at + 1) xs)
map_next f xs at x y old new is value so_far pushed =
    pushed ∙ ap (λ ys. ys ++ y ∷ []) so_far ∙ ap (λ z. map f (take at xs) ++ z ∷ []) (value ∙ ap f (sym (get_or_from_slice_get xs at x x is)))
    ∙ sym (map_more f xs at x (slice_get_within xs at x is))

pub sum_small : (counts : List ℕ) (chunks : ℕ) → length counts ≡ chunks → chunks ≤ 484 → All (λ count. count ≤ 9216) counts → sum counts ≤ 4460544
sum_small counts chunks long few most = omega (arith, sum_by-le (λ (count : ℕ). count) 9216 counts most)

-- a rising list of numbers from `low` to below `high` is no longer than there are such numbers
rising_short : (low high : ℕ) (xs : List ℕ) → low ≤ high → AllPairs ◌<◌ xs → ((x : ℕ) → Contains xs x → (low ≤ x) × (x < high)) → length xs + low ≤ high
rising_short low high [] fits rising within = omega arith
rising_short low high (x ∷ xs) fits rising within =
    let first = within x (Contains-head x xs) in
    let rest = rising_short (x + 1) high xs (omega (arith, first.1)) (AllPairs-tail ◌<◌ x xs rising)
    (λ y has. (let above = head_apart ◌<◌ x xs y rising has in omega arith, (within y (Contains-tail x xs y has)).1)) in
    omega (arith, rest, first.0)

pair_code : (a b : ℕ × ℕ) → IsPairBefore a b → a.1 < 9217 → b.1 < 9217 → a.0 * 9217 + a.1 < b.0 * 9217 + b.1
pair_code a b before a_low b_low = elim before [
  | inl first ↦ omega arith
  | inr second ↦ omega (arith, second.0, second.1)
]

-- two chunks with at most 9216 regions each have few edges
pub edges_short : (edges : List (ℕ × ℕ)) → AllPairs IsPairBefore edges → ((pair : ℕ × ℕ) → Contains edges pair → (pair.0 ≤ 9216) × (pair.1 ≤ 9216)) → length edges ≤ 84953089
edges_short edges rising most =
    let code : ℕ × ℕ → ℕ = λ pair. pair.0 * 9217 + pair.1 in
    let codes = map code edges in
    let short = rising_short 0 84953089 codes (omega arith)
    (AllPairs-map IsPairBefore ◌<◌ code edges rising (λ a b in_a in_b before. pair_code a b before (omega (arith, (most a in_a).1)) (omega (arith, (most b in_b).1))))
    (λ x has. let from = from_map code edges x has in let bound = most from.0 from.1.0 in (omega arith, omega (arith, bound.0, bound.1, from.1.1))) in
    omega (arith, short, length-map edges code)

-- a map has at most 484 chunks
pub chunks_few : (size : Size) → chunk_count size ≤ 484
chunks_few size =
    let wide = size.wide.few in let high = size.high.few in
    let rows : chunk_rows size ≤ 22 = omega arith in
    let columns : chunk_columns size ≤ 22 = omega arith in
    omega (arith, mul-le (chunk_rows size) (chunk_columns size) 22 22 rows columns)

-- ---- what the parts of a class make together

module _ (passes : Cell → Bool) (size : Size) (labels : List Labelling) (inside : PassesInside passes size)
    (of : AreAllLabels passes size labels) where
  pub regions_few : All (λ count. count ≤ 9216) (label_counts labels) → sum (label_counts labels) ≤ 4460544
  regions_few most =
      sum_small (label_counts labels) (chunk_count size) (length-map labels (λ (one : Labelling). length one.firsts) ∙ of.each) (chunks_few size) most

  edge_most : All (λ count. count ≤ 9216) (label_counts labels) → (here there : Chunk) (near far : ℕ) → IsEdge passes here there near far
      → (near ≤ 9216) × (far ≤ 9216)
  edge_most most here there near far edge =
      let a : RegionId = record { chunk = chunk_place size here; region = near } in
      let b : RegionId = record { chunk = chunk_place size there; region = far } in
      let a_is = region_listed passes size labels here edge.from a inside of edge.from_passes edge.from_region refl in
      let b_is = region_listed passes size labels there edge.to b inside of edge.to_passes edge.to_region refl in
      let a_last = a_is.last in let b_last = b_is.last in
      let a_most = most (chunk_place size here) 0 a_is.chunk in
      let b_most = most (chunk_place size there) 0 b_is.chunk in
      (omega arith, omega arith)

  pub side_few : All (λ count. count ≤ 9216) (label_counts labels) → (side : ChunkSide) (all : List (List (ℕ × ℕ)))
      → AreAllEdges side passes size all
      → sum_by length all ≤ 484 * 84953089
  side_few most side all edges_of =
      let short : All (λ edges. length edges ≤ 84953089) all = λ k d low.
      let edges = get_or all k d in
      let own = edges_of.are k edges (slice_get-get_or all k d low) in
      edges_short edges own.rising (λ pair has. edge_most most (chunk_numbered size k) (neighbour_on side (chunk_numbered size k)) pair.0 pair.1 (own.each pair.0 pair.1 has)) in
      let long = edges_of.each in
      let few = chunks_few size in
      omega (
        arith,
        sum_by-le (λ (edges : List (ℕ × ℕ)). length edges) 84953089 all short,
        mul-le (length all) 84953089 484 84953089 (omega arith) (omega arith),
      )

  pub tables_few : All (λ count. count ≤ 9216) (label_counts labels) → (east north : List (List (ℕ × ℕ))) (areas : AreaNumbers)
      → AreAllEdges East passes size east
      → AreAllEdges North passes size north
      → AreFew (record { labels = labels; east = east; north = north; areas = areas })
  tables_few most east north areas east_edges north_edges =
      let regions = regions_few most in
      let e = side_few most East east east_edges in
      let n = side_few most North north north_edges in
      record {
        regions = omega (arith, sum-map (λ (one : Labelling). length one.firsts) labels);
        edges = omega arith;
      }
