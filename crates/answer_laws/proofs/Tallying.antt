-- How many regions, region edges and areas there are, and how many pairs of class and chunk were changed.
use Rattle.std.proofs.Common.{ℕ, ◌≡◌, ◌≢◌, ◌+◌, ◌*◌, ◌<◌, ◌≤◌, ◌/◌, ◌⊎◌, ◌==◌, ◌&&◌, Bool, true, false, List, length, IsTrue, refl, inl, inr, ap, sym, subst, arith, eq-eqb}
use Rattle.std.specs.List.{Contains}
use Rattle.std.proofs.lemmas.Bool.{and_from, true≢false, false≢true}
use Rattle.nav_types.specs.declared.cells.Cell.{Cell}
use Rattle.nav_types.specs.declared.cells.Chunk.{Chunk}
use Rattle.nav_types.specs.Cells.{chunk_of, IsBefore}
use Rattle.nav_types.specs.Directions.{is_straight, Leads}
use Rattle.nav_types.specs.Walks.{Joined}
use Rattle.nav_types.specs.Counting.{Counts}
use Rattle.nav_types.specs.Regions.{passes_in, InOneRegion, HasRegion, IsRegionFirst, IsNextChunk, IsBeside, IsEdge, IsAreaBefore, IsAreaFirst, HasTallies, HasRelabelled}
use Rattle.nav_types.proofs.Items.{same_pair}
use Rattle.nav_types.proofs.Regions.{lies_in, one_region}
use Rattle.answer_laws.proofs.Deciding.{Decided, decided_test, decided_both, decided_either, decided_not, decided_as, decided_some}
use Rattle.answer_laws.proofs.Distances.{HasAll, decided_leads, decided_same_cell, decided_same_number, all_dirs, in_all_dirs}
use Rattle.answer_laws.proofs.Listing.{below, in_below, from_below, gathered, in_gathered, from_gathered, only_where, in_only_where, from_only_where, counted, below_length, gathered_few, only_few, counts_few}
use Rattle.answer_laws.proofs.Numbers.{regions, areas, region_of, decided_first, decided_same_chunk}

-- ---- things by class

pub decided_same_pair : {A B : Type 0} → ((a b : A) → Decided (a ≡ b)) → ((a b : B) → Decided (a ≡ b)) → (a b : A × B) → Decided (a ≡ b)
decided_same_pair one two a b = decided_as {P = (a.0 ≡ b.0) × (a.1 ≡ b.1)} (λ both. same_pair a b both.0 both.1)
    (λ same. (ap (λ pair. pair.0) same, ap (λ pair. pair.1) same)) (decided_both (one a.0 b.0) (two a.1 b.1))

-- what each class below the bound has of a kind among cells of a list, told of each by a name
module _ {B : Type 0} (classes : ℕ) (cells : List Cell) (Kind : ℕ → Cell → Type 0) (decide : (class : ℕ) (cell : Cell) → Decided (Kind class cell))
    (name : ℕ → Cell → B) where
  pub by_class : List B
  by_class = gathered (λ class. gathered (λ cell. only_where (decide class cell) (name class cell)) cells) (below classes)

  pub in_by_class : (class : ℕ) (cell : Cell) → class < classes → Contains cells cell → Kind class cell → Contains by_class (name class cell)
  unfolding by_class
  in_by_class class cell less inside is =
      in_gathered (λ k. gathered (λ c. only_where (decide k c) (name k c)) cells) (below classes) class (name class cell)
      (in_below classes class less)
      (in_gathered (λ c. only_where (decide class c) (name class c)) cells cell (name class cell) inside
      (in_only_where (decide class cell) (name class cell) is))

  pub from_by_class : (b : B) → Contains by_class b
      → (class : ℕ) × ((cell : Cell) × ((class < classes) × (Kind class cell × (name class cell ≡ b))))
  unfolding by_class
  from_by_class b inside =
      let outer = from_gathered (λ k. gathered (λ c. only_where (decide k c) (name k c)) cells) (below classes) b inside in
      let inner = from_gathered (λ c. only_where (decide outer.0 c) (name outer.0 c)) cells b outer.1.1 in
      let item = from_only_where (decide outer.0 inner.0) (name outer.0 inner.0) b inner.1.1 in
      (outer.0, (inner.0, (from_below classes outer.0 outer.1.0, (item.0, item.1))))

-- there are no more of these than one for each class and cell
by_class_few : {B : Type 0} (classes : ℕ) (cells : List Cell) (Kind : ℕ → Cell → Type 0) (decide : (class : ℕ) (cell : Cell) → Decided (Kind class cell))
    (name : ℕ → Cell → B) → length (by_class classes cells Kind decide name) ≤ length cells * classes
unfolding by_class
by_class_few {B} classes cells Kind decide name =
    let one : ℕ → Cell → List B = λ class cell. only_where (decide class cell) (name class cell) in
    let inner : (class : ℕ) → length (gathered (one class) cells) ≤ length cells =
    λ class. omega (arith, gathered_few (one class) 1 (λ cell. only_few (decide class cell) (name class cell)) cells) in
    subst (λ (n : ℕ). length (gathered (λ class. gathered (one class) cells) (below classes)) ≤ length cells * n) (below_length classes)
    (gathered_few (λ class. gathered (one class) cells) (length cells) inner (below classes))

-- cells of classes are counted
cells_counted : (classes : ℕ) (cells : List Cell) (Kind : ℕ → Cell → Type 0) → ((class : ℕ) (cell : Cell) → Decided (Kind class cell))
    → ((class : ℕ) (cell : Cell) → Kind class cell → Contains cells cell)
    → (count : ℕ) × Counts (λ (r : ℕ × Cell). (r.0 < classes) × Kind r.0 r.1) count
cells_counted classes cells Kind decide all =
    let pair : ℕ → Cell → ℕ × Cell = λ class cell. (class, cell) in
    let P : ℕ × Cell → Type 0 = λ r. (r.0 < classes) × Kind r.0 r.1 in
    counted P (decided_same_pair decided_same_number decided_same_cell) (by_class classes cells Kind decide pair)
    (λ r inside.
    let from = from_by_class classes cells Kind decide pair r inside in
    subst P from.1.1.1.1 (from.1.1.0, from.1.1.1.0))
    (λ r is. in_by_class classes cells Kind decide pair r.0 r.1 is.0 (all r.0 r.1 is.1) is.1)

-- ---- regions, edges and areas

passes_own : (passes : Cell → Bool) (cell : Cell) → IsTrue (passes cell) → IsTrue (passes_in passes (chunk_of cell) cell)
passes_own passes cell passing =
    and_from ((cell.i / 96 == (chunk_of cell).ci) && (cell.j / 96 == (chunk_of cell).cj)) (passes cell)
    (and_from (cell.i / 96 == (chunk_of cell).ci) (cell.j / 96 == (chunk_of cell).cj)
    (eq-eqb (cell.i / 96) (chunk_of cell).ci refl) (eq-eqb (cell.j / 96) (chunk_of cell).cj refl)) passing

decided_beside : (a b : Cell) → Decided (IsBeside a b)
decided_beside a b = decided_some (λ dir. IsTrue (is_straight dir) × Leads dir a b)
    (λ dir. decided_both (decided_test (is_straight dir)) (decided_leads dir a b)) all_dirs (λ dir is. in_all_dirs dir)

decided_next_chunk : (a b : Chunk) → Decided (IsNextChunk a b)
decided_next_chunk a b = decided_either
    (decided_both (decided_same_number b.ci (a.ci + 1)) (decided_same_number b.cj a.cj))
    (decided_both (decided_same_number b.ci a.ci) (decided_same_number b.cj (a.cj + 1)))

abbrev EdgeName : Type 0
EdgeName = ℕ × Chunk × Chunk × ℕ × ℕ

same_edge : (a b : EdgeName) → a.0 ≡ b.0 → a.1 ≡ b.1 → a.2 ≡ b.2 → a.3 ≡ b.3 → a.4 ≡ b.4 → a ≡ b
same_edge a b p q r s t = λ i. (p i, q i, r i, s i, t i)

decided_same_edge : (a b : EdgeName) → Decided (a ≡ b)
decided_same_edge a b = decided_as {P = (a.0 ≡ b.0) × ((a.1 ≡ b.1) × ((a.2 ≡ b.2) × ((a.3 ≡ b.3) × (a.4 ≡ b.4))))}
    (λ all. same_edge a b all.0 all.1.0 all.1.1.0 all.1.1.1.0 all.1.1.1.1)
    (λ same. (
      ap (λ (e : EdgeName). e.0) same,
      (
        ap (λ (e : EdgeName). e.1) same,
        (
          ap (λ (e : EdgeName). e.2) same,
          (ap (λ (e : EdgeName). e.3) same, ap (λ (e : EdgeName). e.4) same),
        ),
      ),
    ))
    (decided_both (decided_same_number a.0 b.0) (decided_both (decided_same_chunk a.1 b.1) (decided_both (decided_same_chunk a.2 b.2)
    (decided_both (decided_same_number a.3 b.3) (decided_same_number a.4 b.4)))))

module _ (classes : ℕ) (cells : List Cell) (passes : ℕ → Cell → Bool) (whole : (class : ℕ) → HasAll (passes class) cells) where
  decided_region_first : (class : ℕ) (cell : Cell) → Decided (IsRegionFirst (passes class) cell)
  decided_region_first class cell =
      decided_first (passes_in (passes class) (chunk_of cell)) cells (InOneRegion (passes class) (chunk_of cell)) IsBefore
      (regions (passes class) cells (chunk_of cell) (whole class)) cell

  decided_area_first : (class : ℕ) (cell : Cell) → Decided (IsAreaFirst (passes class) cell)
  decided_area_first class cell =
      decided_first (passes class) cells (Joined (passes class)) IsAreaBefore (areas (passes class) cells (whole class)) cell

  -- passable cells side by side, in neighbouring chunks
  abbrev AreAcross : ℕ → Cell → Cell → Type 0
  AreAcross class from to = IsNextChunk (chunk_of from) (chunk_of to)
      × (IsBeside from to × (IsTrue (passes class from) × IsTrue (passes class to)))

  decided_across : (class : ℕ) (from to : Cell) → Decided (AreAcross class from to)
  decided_across class from to = decided_both (decided_next_chunk (chunk_of from) (chunk_of to))
      (decided_both (decided_beside from to) (decided_both (decided_test (passes class from)) (decided_test (passes class to))))

  -- the number of the cell's region in its chunk
  region_number : ℕ → Cell → ℕ
  region_number class cell = (region_of (passes class) cells (whole class) (chunk_of cell) cell).0

  has_region : (class : ℕ) (cell : Cell) → HasRegion (passes class) (chunk_of cell) cell (region_number class cell)
  unfolding region_number
  has_region class cell = (region_of (passes class) cells (whole class) (chunk_of cell) cell).1

  edge_name : Cell → ℕ → Cell → EdgeName
  edge_name to class from = (class, chunk_of from, chunk_of to, region_number class from, region_number class to)

  abbrev EdgeKind : EdgeName → Type 0
  EdgeKind e = (e.0 < classes) × (IsNextChunk e.1 e.2 × IsEdge (passes e.0) e.1 e.2 e.3 e.4)

  -- the edges that lead to a cell
  edges_to : Cell → List EdgeName
  edges_to to = by_class classes cells (λ class from. AreAcross class from to) (λ class from. decided_across class from to) (edge_name to)

  is_edge : (class : ℕ) (from to : Cell) → class < classes → AreAcross class from to → EdgeKind (edge_name to class from)
  unfolding edge_name
  is_edge class from to less across = (
    less,
    (
      across.0,
      record {
        from = from;
        to = to;
        beside = across.1.0;
        from_passes = passes_own (passes class) from across.1.1.0;
        to_passes = passes_own (passes class) to across.1.1.1;
        from_region = has_region class from;
        to_region = has_region class to;
      },
    ),
  )

  each_edge : (e : EdgeName) → Contains (gathered edges_to cells) e → EdgeKind e
  unfolding edges_to
  each_edge e inside =
      let to = from_gathered edges_to cells e inside in
      let from = from_by_class classes cells (λ class from. AreAcross class from to.0) (λ class from. decided_across class from to.0) (edge_name to.0) e to.1.1 in
      subst EdgeKind from.1.1.1.1 (is_edge from.0 from.1.0 to.0 from.1.1.0 from.1.1.1.0)

  edge_is_named : (e : EdgeName) (is : EdgeKind e) → edge_name is.1.1.to e.0 is.1.1.from ≡ e
  unfolding edge_name
  edge_is_named e is =
      let edge = is.1.1 in
      let near = lies_in (passes e.0) e.1 edge.from edge.from_passes in
      let far = lies_in (passes e.0) e.2 edge.to edge.to_passes in
      same_edge (edge_name edge.to e.0 edge.from) e refl near.in_chunk far.in_chunk
      (one_region (passes e.0) e.1 edge.from (region_number e.0 edge.from) e.3
      (subst (λ (c : Chunk). HasRegion (passes e.0) c edge.from (region_number e.0 edge.from)) near.in_chunk (has_region e.0 edge.from)) edge.from_region)
      (one_region (passes e.0) e.2 edge.to (region_number e.0 edge.to) e.4
      (subst (λ (c : Chunk). HasRegion (passes e.0) c edge.to (region_number e.0 edge.to)) far.in_chunk (has_region e.0 edge.to)) edge.to_region)

  all_edges : (e : EdgeName) → EdgeKind e → Contains (gathered edges_to cells) e
  unfolding edges_to
  all_edges e is =
      let edge = is.1.1 in
      let near = lies_in (passes e.0) e.1 edge.from edge.from_passes in
      let far = lies_in (passes e.0) e.2 edge.to edge.to_passes in
      let next : IsNextChunk (chunk_of edge.from) (chunk_of edge.to) =
      subst (λ (c : Chunk). IsNextChunk c (chunk_of edge.to)) (sym near.in_chunk)
      (subst (λ (c : Chunk). IsNextChunk e.1 c) (sym far.in_chunk) is.1.0) in
      let across : AreAcross e.0 edge.from edge.to = (next, (edge.beside, (near.passable, far.passable))) in
      subst (Contains (gathered edges_to cells)) (edge_is_named e is)
      (in_gathered edges_to cells edge.to (edge_name edge.to e.0 edge.from) (whole e.0 edge.to far.passable)
      (in_by_class classes cells (λ class from. AreAcross class from edge.to) (λ class from. decided_across class from edge.to) (edge_name edge.to)
      e.0 edge.from is.0 (whole e.0 edge.from near.passable) across))

  pub edges_few : (count : ℕ) → Counts EdgeKind count → count ≤ (length cells * classes) * length cells
  unfolding edges_to
  edges_few count counts =
      let each : (to : Cell) → length (edges_to to) ≤ length cells * classes =
      λ to. by_class_few classes cells (λ class from. AreAcross class from to) (λ class from. decided_across class from to) (edge_name to) in
      let few = counts_few EdgeKind count counts (gathered edges_to cells) all_edges in
      omega (arith, few, gathered_few edges_to (length cells * classes) each cells)

  pub tallies : (regions : ℕ) × ((edges : ℕ) × ((areas : ℕ) × HasTallies classes passes regions edges areas))
  tallies =
      let some_regions = cells_counted classes cells (λ class cell. IsRegionFirst (passes class) cell) decided_region_first
      (λ class cell first. whole class cell (lies_in (passes class) (chunk_of cell) cell first.passable).passable) in
      let some_areas = cells_counted classes cells (λ class cell. IsAreaFirst (passes class) cell) decided_area_first
      (λ class cell first. whole class cell first.passable) in
      let some_edges = counted EdgeKind decided_same_edge (gathered edges_to cells) each_edge all_edges in (
        some_regions.0,
        (
          some_edges.0,
          (
            some_areas.0,
            record {
              region_count = some_regions.1;
              edge_count = some_edges.1;
              area_count = some_areas.1;
            },
          ),
        ),
      )

-- ---- changed pairs

decided_same_test : (a b : Bool) → Decided (a ≡ b)
decided_same_test true true = inl refl
decided_same_test true false = inr true≢false
decided_same_test false true = inr false≢true
decided_same_test false false = inl refl

pub changed_passes : (before now : Bool) → before ≢ now → (before ≡ true) ⊎ (now ≡ true)
changed_passes true now changed = inl refl
changed_passes false true changed = inr refl
changed_passes false false changed = absurd (changed refl)

pub relabelled : (classes : ℕ) (cells : List Cell) (before now : ℕ → Cell → Bool) → ((class : ℕ) → HasAll (before class) cells)
    → ((class : ℕ) → HasAll (now class) cells) → (count : ℕ) × HasRelabelled classes before now count
relabelled classes cells before now whole_before whole_now =
    let Changed : ℕ → Cell → Type 0 = λ class cell. before class cell ≢ now class cell in
    let decide : (class : ℕ) (cell : Cell) → Decided (Changed class cell) =
    λ class cell. decided_not (decided_same_test (before class cell) (now class cell)) in
    let name : ℕ → Cell → ℕ × Chunk = λ class cell. (class, chunk_of cell) in
    let P : ℕ × Chunk → Type 0 = λ p. (p.0 < classes) × ((cell : Cell) × ((chunk_of cell ≡ p.1) × (before p.0 cell ≢ now p.0 cell))) in
    counted P (decided_same_pair decided_same_number decided_same_chunk) (by_class classes cells Changed decide name)
    (λ p inside.
    let from = from_by_class classes cells Changed decide name p inside in
    subst P from.1.1.1.1 (from.1.1.0, (from.1.0, (refl, from.1.1.1.0))))
    (λ p is.
    let cell = is.1.0 in
    let inside : Contains cells cell = elim (changed_passes (before p.0 cell) (now p.0 cell) is.1.1.1) [
      | inl open_before ↦ whole_before p.0 cell open_before
      | inr open_now ↦ whole_now p.0 cell open_now
    ] in
    subst (Contains (by_class classes cells Changed decide name)) (same_pair (name p.0 cell) p refl is.1.1.0)
    (in_by_class classes cells Changed decide name p.0 cell is.0 inside is.1.1.1))
