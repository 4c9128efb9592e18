-- The tallies of a class and of all classes, and how many chunks differ.
use Rattle.std.proofs.Common.{ℕ, ◌≡◌, ◌≢◌, ◌<◌, ◌⊎◌, ◌↔◌, Bool, true, false, cond, List, IsTrue, length, get_or, refl, ap, inl, inr, sym, subst, ◌∙◌, arith, Some}
use Rattle.std.specs.List.{AllPairs, sum_by, count_by, slice_get}
use Rattle.std.proofs.lemmas.Bool.{cases_Bool, false≢true}
use Rattle.nav_types.specs.declared.cells.Cell.{Cell}
use Rattle.nav_types.specs.declared.cells.Chunk.{Chunk}
use Rattle.nav_types.specs.declared.cells.Size.{Size}
use Rattle.nav_types.specs.Cells.{IsBefore, IsInside, chunk_of}
use Rattle.nav_types.specs.Counting.{IsFirst, Counts}
use Rattle.nav_types.specs.Regions.{passes_in, InOneRegion, IsRegionFirst, IsNextChunk, IsEdge, IsAreaFirst, HasTallies, HasRelabelled}
use Rattle.chunk_regions.specs.Labelling.{Labelling, AreLabels}
use Rattle.nav_types.proofs.CellOrder.{same_chunk, IsBefore-irrefl}
use Rattle.region_edges.specs.Edges.{PassesInside, IsPairBefore, AreEdges}
use Rattle.region_edges.specs.declared.neighbours.ChunkSide.{ChunkSide}
use Rattle.region_edges.specs.declared.neighbours.ChunkSide.TheVariants.{East, North}
use Rattle.region_edges.proofs.PairLemmas.{IsPairBefore-asym}
use Rattle.grid_versions.specs.Chunks.{chunk_count, chunk_place}
use Rattle.grid_versions.specs.inner.ChunkLists.{chunk_numbered, IsChunkInside, east_of, north_of, neighbour_on, AreOfChunks}
use Rattle.grid_versions.specs.inner.Tables.{Tables, AreTables, AreAllEdges, region_total, edge_total}
use Rattle.grid_versions.specs.inner.Tallying.{HasClassTallies, AreTablesOf, Differs, AreMarks, AreMarksOf}
use Rattle.nav_types.proofs.Items.{IsOnce, same_pair}
use Rattle.nav_types.proofs.Counting.{Counts-none, Counts-one, Counts-carried, Counts-either, Counts-listed}
use Rattle.nav_types.proofs.Regions.{lies_in}
use Rattle.grid_versions.proofs.ChunkLemmas.{place_below, numbered-place, place-numbered, numbered_inside, chunk_inside}
use Rattle.grid_versions.proofs.AreaLemmas.{area_tally}

-- an ordered list has each item once
once_from_rising : {A : Type 0} (Before : A → A → Type 0) → ((a : A) → Before a a → ⊥) → (xs : List A) → AllPairs Before xs → IsOnce xs
once_from_rising Before irrefl xs rising i j d low high same =
    irrefl (get_or xs j d) (subst (λ x. Before x (get_or xs j d)) same (rising i j d low high))

-- one kind a chunk: all things with their chunks
pub Counts-chunks : {A T : Type 0} (size : Size) (Is : Chunk → T → Type 0) (Kind : Chunk → A → Type 0) (count : T → ℕ) (items : List T)
    → AreOfChunks size (chunk_count size) Is items → ((chunk : Chunk) (item : T) → Is chunk item → Counts (Kind chunk) (count item))
    → Counts (λ (p : Chunk × A). IsChunkInside size p.0 × Kind p.0 p.1) (sum_by count items)
Counts-chunks {A} {T} size Is Kind count items of each =
    let At : ℕ × A → Type 0 = λ p. (p.0 < chunk_count size) × Kind (chunk_numbered size p.0) p.1 in
    let In : Chunk × A → Type 0 = λ p. IsChunkInside size p.0 × Kind p.0 p.1 in
    let to : ℕ × A → Chunk × A = λ p. (chunk_numbered size p.0, p.1) in
    Counts-carried At In to (sum_by count items)
    (λ p is. (numbered_inside size p.0 is.0, is.1))
    (λ p is.
    let there = numbered-place size p.0 is.0 in (
      (chunk_place size p.0, p.1),
      (
        (place_below size p.0 is.0, subst (λ (chunk : Chunk). Kind chunk p.1) (sym there) is.1),
        same_pair (to (chunk_place size p.0, p.1)) p there refl,
      ),
    ))
    (λ a b is_a is_b same.
    let chunk : chunk_numbered size a.0 ≡ chunk_numbered size b.0 = ap (λ (p : Chunk × A). p.0) same in
    let place : a.0 ≡ b.0 = sym (place-numbered size a.0) ∙ ap (λ (c : Chunk). chunk_place size c) chunk ∙ place-numbered size b.0 in
    same_pair a b place (ap (λ (p : Chunk × A). p.1) same))
    (Counts-listed (λ k a. Kind (chunk_numbered size k) a) count items (chunk_count size) of.each
    (λ k item at. each (chunk_numbered size k) item (of.are k item at)))

-- ---- one class

module _ (passes : Cell → Bool) (size : Size) (tables : Tables) (inside : PassesInside passes size) (are : AreTables passes size tables) where
  -- the first cells of a chunk's regions
  abbrev FirstIn : Chunk → Cell → Type 0
  FirstIn chunk cell = IsFirst (passes_in passes chunk) (InOneRegion passes chunk) IsBefore cell

  first_own : (chunk : Chunk) (cell : Cell) → FirstIn chunk cell → chunk_of cell ≡ chunk
  first_own chunk cell first = (lies_in passes chunk cell first.passable).in_chunk

  firsts_counted : (chunk : Chunk) (labels : Labelling) → AreLabels passes size chunk labels → Counts (FirstIn chunk) (length labels.firsts)
  firsts_counted chunk labels own =
      let of = own.first_cells in
      (labels.firsts, (record { each = of.each; all = of.all; once = once_from_rising IsBefore IsBefore-irrefl labels.firsts of.rising }, refl))

  region_tally : Counts (IsRegionFirst passes) (region_total tables)
  region_tally =
      let count = λ (labels : Labelling). length labels.firsts in
      Counts-carried (λ (p : Chunk × Cell). IsChunkInside size p.0 × FirstIn p.0 p.1) (IsRegionFirst passes) (λ p. p.1) (sum_by count tables.labels)
      (λ p is. subst (λ (chunk : Chunk). FirstIn chunk p.1) (sym (first_own p.0 p.1 is.1)) is.1)
      (λ cell first. (
        (chunk_of cell, cell),
        ((chunk_inside size cell (inside cell (lies_in passes (chunk_of cell) cell first.passable).passable), first), refl),
      ))
      (λ a b is_a is_b same.
      same_pair a b (sym (first_own a.0 a.1 is_a.1) ∙ ap (λ (cell : Cell). chunk_of cell) same ∙ first_own b.0 b.1 is_b.1) same)
      (Counts-chunks size (λ chunk labels. AreLabels passes size chunk labels) FirstIn count tables.labels are.labels_are firsts_counted)

  -- the edges of a chunk to its neighbour on a side
  abbrev EdgeTo : ChunkSide → Chunk → ℕ × ℕ → Type 0
  EdgeTo side chunk pair = IsEdge passes chunk (neighbour_on side chunk) pair.0 pair.1

  abbrev EdgeOn : ChunkSide → Chunk × Chunk × ℕ × ℕ → Type 0
  EdgeOn side e = (neighbour_on side e.0 ≡ e.1) × IsEdge passes e.0 e.1 e.2 e.3

  edges_counted : (side : ChunkSide) (chunk : Chunk) (edges : List (ℕ × ℕ)) → AreEdges passes chunk (neighbour_on side chunk) edges → Counts (EdgeTo side chunk) (length edges)
  edges_counted side chunk edges of = (
    edges,
    (
      record {
        each = λ pair listed. of.each pair.0 pair.1 listed;
        all = λ pair edge. of.all pair.0 pair.1 edge;
        once = once_from_rising IsPairBefore (λ pair before. IsPairBefore-asym pair pair before before) edges of.rising;
      },
      refl,
    ),
  )

  side_tally : (side : ChunkSide) (all : List (List (ℕ × ℕ))) → AreAllEdges side passes size all
      → Counts (EdgeOn side) (sum_by length all)
  side_tally side all of =
      let to : Chunk × (ℕ × ℕ) → Chunk × Chunk × ℕ × ℕ = λ p. (p.0, neighbour_on side p.0, p.1.0, p.1.1) in
      Counts-carried (λ (p : Chunk × (ℕ × ℕ)). IsChunkInside size p.0 × EdgeTo side p.0 p.1) (EdgeOn side) to (sum_by length all)
      (λ p is. (refl, is.1))
      (λ e is.
      let lies = lies_in passes e.0 is.1.from is.1.from_passes in
      let here : IsChunkInside size e.0 = subst (λ (chunk : Chunk). IsChunkInside size chunk) lies.in_chunk (chunk_inside size is.1.from (inside is.1.from lies.passable)) in (
        (e.0, (e.2, e.3)),
        (
          (here, subst (λ (there : Chunk). IsEdge passes e.0 there e.2 e.3) (sym is.0) is.1),
          ap (λ (there : Chunk). let q : Chunk × Chunk × ℕ × ℕ = (e.0, there, e.2, e.3) in q) is.0,
        ),
      ))
      (λ a b is_a is_b same.
      same_pair a b (ap (λ (e : Chunk × Chunk × ℕ × ℕ). e.0) same)
      (same_pair a.1 b.1 (ap (λ (e : Chunk × Chunk × ℕ × ℕ). e.2) same) (ap (λ (e : Chunk × Chunk × ℕ × ℕ). e.3) same)))
      (Counts-chunks size (λ chunk edges. AreEdges passes chunk (neighbour_on side chunk) edges) (EdgeTo side) length all of (edges_counted side))

  edge_tally : Counts (λ (e : Chunk × Chunk × ℕ × ℕ). IsNextChunk e.0 e.1 × IsEdge passes e.0 e.1 e.2 e.3) (edge_total tables)
  edge_tally =
      Counts-carried (λ (e : Chunk × Chunk × ℕ × ℕ). EdgeOn East e ⊎ EdgeOn North e) (λ (e : Chunk × Chunk × ℕ × ℕ). IsNextChunk e.0 e.1 × IsEdge passes e.0 e.1 e.2 e.3) (λ e. e) (edge_total tables)
      (λ e is. elim is [
        | inl east ↦ (inl (ap (λ (chunk : Chunk). chunk.ci) (sym east.0), ap (λ (chunk : Chunk). chunk.cj) (sym east.0)), east.1)
        | inr north ↦ (inr (ap (λ (chunk : Chunk). chunk.ci) (sym north.0), ap (λ (chunk : Chunk). chunk.cj) (sym north.0)), north.1)
      ])
      (λ e is. (
        e,
        (
          elim is.0 [
            | inl east ↦ inl (same_chunk (east_of e.0) e.1 (sym east.0) (sym east.1), is.1)
            | inr north ↦ inr (same_chunk (north_of e.0) e.1 (sym north.0) (sym north.1), is.1)
          ],
          refl,
        ),
      ))
      (λ a b is_a is_b same. same)
      (Counts-either (EdgeOn East) (EdgeOn North) (sum_by length tables.east) (sum_by length tables.north)
      (λ e east north. let column = ap (λ (chunk : Chunk). chunk.ci) (east.0 ∙ sym north.0) in omega arith)
      (side_tally East tables.east are.east_are) (side_tally North tables.north are.north_are))

  pub class_tallies : HasClassTallies passes (region_total tables) (edge_total tables) tables.areas.count
  class_tallies = record {
    region_count = region_tally;
    edge_count = edge_tally;
    area_count = area_tally passes size tables inside are;
  }

-- ---- all classes

pub all_tallies : (classes : ℕ) (passes : ℕ → Cell → Bool) (size : Size) (all : List Tables)
    → ((class : ℕ) → PassesInside (passes class) size) → AreTablesOf classes passes size all
    → HasTallies classes passes (sum_by region_total all) (sum_by edge_total all) (sum_by (λ tables. tables.areas.count) all)
all_tallies classes passes size all inside of =
    let one = λ (k : ℕ) (tables : Tables) (at : slice_get all k ≡ Some tables). class_tallies (passes k) size tables (inside k) (of.are k tables at) in
    let EdgeOf : ℕ → Chunk × Chunk × ℕ × ℕ → Type 0 = λ k e. IsNextChunk e.0 e.1 × IsEdge (passes k) e.0 e.1 e.2 e.3 in
    let to : ℕ × (Chunk × Chunk × ℕ × ℕ) → ℕ × Chunk × Chunk × ℕ × ℕ = λ p. (p.0, p.1.0, p.1.1, p.1.2, p.1.3) in
    record {
      region_count = Counts-listed (λ k cell. IsRegionFirst (passes k) cell) region_total all classes of.each (λ k tables at. (one k tables at).region_count);
      edge_count = Counts-carried (λ (p : ℕ × (Chunk × Chunk × ℕ × ℕ)). (p.0 < classes) × EdgeOf p.0 p.1)
          (λ (e : ℕ × Chunk × Chunk × ℕ × ℕ). (e.0 < classes) × (IsNextChunk e.1 e.2 × IsEdge (passes e.0) e.1 e.2 e.3 e.4)) to (sum_by edge_total all)
          (λ p is. is)
          (λ e is. ((e.0, (e.1, e.2, e.3, e.4)), (is, refl)))
          (λ a b is_a is_b same. ap (λ (e : ℕ × Chunk × Chunk × ℕ × ℕ). let q : ℕ × (Chunk × Chunk × ℕ × ℕ) = (e.0, (e.1, e.2, e.3, e.4)) in q) same)
          (Counts-listed EdgeOf edge_total all classes of.each (λ k tables at. (one k tables at).edge_count));
      area_count = Counts-listed (λ k cell. IsAreaFirst (passes k) cell) (λ tables. tables.areas.count) all classes of.each (λ k tables at. (one k tables at).area_count);
    }

-- ---- chunks that differ

-- a cell that is passable in one of two maps lies in them
pub differing_inside : (before now : Cell → Bool) (size : Size) → PassesInside before size → PassesInside now size → (cell : Cell) → before cell ≢ now cell → IsInside size cell
differing_inside before now size before_in now_in cell differ = elim (cases_Bool (before cell)) [
  | inl was ↦ before_in cell was
  | inr was_not ↦ elim (cases_Bool (now cell)) [
    | inl is ↦ now_in cell is
    | inr is_not ↦ absurd (differ (was_not ∙ sym is_not))
  ]
]

mark_counted : (P : Type 0) (chunk : Chunk) (mark : Bool) → IsTrue mark ↔ P → Counts (λ (other : Chunk). (chunk ≡ other) × P) (cond mark 1 0)
mark_counted P chunk true means = Counts-one (λ (other : Chunk). (chunk ≡ other) × P) chunk (refl, means.0 refl) (λ other is. is.0)
mark_counted P chunk false means = Counts-none (λ (other : Chunk). (chunk ≡ other) × P) (λ other is. absurd (false≢true (means.1 is.1)))

pub marks_counted : (before now : Cell → Bool) (size : Size) (marks : List Bool) → PassesInside before size → PassesInside now size
    → AreMarks before now size marks → Counts (Differs before now) (count_by (λ mark. mark) marks)
marks_counted before now size marks before_in now_in of =
    Counts-carried (λ (p : Chunk × Chunk). IsChunkInside size p.0 × ((p.0 ≡ p.1) × Differs before now p.0)) (Differs before now) (λ p. p.0) (count_by (λ mark. mark) marks)
    (λ p is. is.1.1)
    (λ chunk differs.
    let here : IsChunkInside size chunk = subst (λ (c : Chunk). IsChunkInside size c) differs.1.0
    (chunk_inside size differs.0 (differing_inside before now size before_in now_in differs.0 differs.1.1)) in
    ((chunk, chunk), ((here, (refl, differs)), refl)))
    (λ a b is_a is_b same. same_pair a b same (sym is_a.1.0 ∙ same ∙ is_b.1.0))
    (Counts-chunks size (λ chunk mark. IsTrue mark ↔ Differs before now chunk) (λ chunk other. (chunk ≡ other) × Differs before now chunk) (λ mark. cond mark 1 0) marks of
    (λ chunk mark means. mark_counted (Differs before now chunk) chunk mark means))

pub all_relabelled : (classes : ℕ) (before now : ℕ → Cell → Bool) (size : Size) (all : List (List Bool))
    → ((class : ℕ) → PassesInside (before class) size) → ((class : ℕ) → PassesInside (now class) size)
    → AreMarksOf classes before now size all → HasRelabelled classes before now (sum_by (λ marks. count_by (λ mark. mark) marks) all)
all_relabelled classes before now size all before_in now_in of =
    Counts-listed (λ k chunk. Differs (before k) (now k) chunk) (λ marks. count_by (λ mark. mark) marks) all classes of.each
    (λ k marks at. marks_counted (before k) (now k) size marks (before_in k) (now_in k) (of.are k marks at))
