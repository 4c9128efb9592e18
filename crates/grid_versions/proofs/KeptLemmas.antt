-- What of a chunk's regions and edges stays although cells of the chunk have changed.
use Rattle.std.proofs.Common.{ℕ, ◌≡◌, ◌*◌, ◌/◌, ◌==◌, ◌&&◌, Bool, List, [], ◌∷◌, IsTrue, IsFalse, inl, inr, ap, sym, subst, ◌∙◌, arith}
use Rattle.std.specs.List.{All, Contains, slice_get}
use Rattle.std.proofs.lemmas.Bool.{cases_lt, and_parts, and_from, false_from_ne_true}
use Rattle.nav_types.specs.declared.cells.Cell.{Cell}
use Rattle.nav_types.specs.declared.cells.Chunk.{Chunk}
use Rattle.nav_types.specs.declared.cells.Rect.{Rect}
use Rattle.nav_types.specs.declared.cells.Size.{Size}
use Rattle.nav_types.specs.declared.directions.Dir.{Dir}
use Rattle.nav_types.specs.Cells.{cell_at, chunk_of, IsBefore, IsInRect}
use Rattle.nav_types.specs.Rects.{chunk_rect}
use Rattle.nav_types.specs.Regions.{passes_in, JoinedStraight, InOneRegion, HasRegion, IsEdge}
use Rattle.nav_types.specs.Walks.{IsWalk}
use Rattle.nav_types.specs.Numbering.{number_of}
use Rattle.nav_types.proofs.CellOrder.{IsBefore-asym}
use Rattle.nav_types.proofs.FirstCells.{AreFirsts-unique}
use Rattle.nav_types.proofs.Regions.{lies_in, one_region}
use Rattle.chunk_regions.specs.Labelling.{Labelling, AreLabels}
use Rattle.chunk_regions.proofs.LabelLemmas.{in_rect}
use Rattle.region_edges.specs.declared.neighbours.ChunkSide.{ChunkSide}
use Rattle.region_edges.specs.declared.neighbours.ChunkSide.TheVariants.{East, North}
use Rattle.region_edges.specs.Edges.{LiesOn, PassesInside, AreEdges}
use Rattle.region_edges.proofs.EdgeLemmas.{goes_on}
use Rattle.class_planes.proofs.UpdateLemmas.{in_rect_or_not}
use Rattle.grid_versions.specs.declared.dirty_parts.DirtyPart.{DirtyPart}
use Rattle.grid_versions.specs.Chunks.{chunk_place}
use Rattle.grid_versions.specs.inner.ChunkLists.{chunk_numbered, neighbour_on, IsChunkInside}
use Rattle.grid_versions.specs.inner.Changing.{AgreeInChunk, AreChanges}
use Rattle.grid_versions.specs.inner.Keeping.{StillPass, ChangesOneWay, KeepRegions, SameRegions, IsKeptPart, IsFirstOn, IsLastOn}
use Rattle.grid_versions.specs.inner.ReachedParts.{IsReachedPart}
use Rattle.grid_versions.specs.inner.Reaching.{is_in_some}
use Rattle.grid_versions.proofs.ChangeLemmas.{same_in, same_unless, same_region_number, outside_agrees}
use Rattle.grid_versions.proofs.TallyLemmas.{differing_inside}
use Rattle.grid_versions.proofs.ChunkLemmas.{numbered-place}

-- ---- walks where more cells pass

walk_wider : (P Q : Cell → Bool) → ((cell : Cell) → IsTrue (P cell) → IsTrue (Q cell)) → (dirs : List Dir) (from to : Cell)
    → IsWalk P from dirs to → IsWalk Q from dirs to
walk_wider P Q more [] from to walk = walk
walk_wider P Q more (dir ∷ dirs) from to walk =
    let step = walk.1.0 in (
      walk.0,
      (
        record {
          leads = step.leads;
          start = more from step.start;
          next = more walk.0 step.next;
          side = more (cell_at walk.0.i from.j) step.side;
          ahead = more (cell_at from.i walk.0.j) step.ahead;
        },
        walk_wider P Q more dirs walk.0 to walk.1.1,
      ),
    )

joined_wider : (P Q : Cell → Bool) → ((cell : Cell) → IsTrue (P cell) → IsTrue (Q cell)) → (from to : Cell)
    → JoinedStraight P from to → JoinedStraight Q from to
joined_wider P Q more from to joined = (joined.0, (joined.1.0, walk_wider P Q more joined.0 from to joined.1.1))

-- ---- regions with the same first cells, where more cells of a chunk pass in one of two maps

module _ (less more : Cell → Bool) (size : Size) (chunk : Chunk) (few many : Labelling) (inside : PassesInside less size)
    (few_are : AreLabels less size chunk few) (many_are : AreLabels more size chunk many) (firsts : few.firsts ≡ many.firsts)
    (still : (cell : Cell) → IsTrue (passes_in less chunk cell) → IsTrue (passes_in more chunk cell)) where
  -- a cell that passes in both has its number where more pass
  number_wider : (cell : Cell) (number : ℕ) → IsTrue (passes_in less chunk cell) → HasRegion less chunk cell number
      → HasRegion more chunk cell number
  number_wider cell number here_passes has =
      let P = passes_in less chunk in
      let Q = passes_in more chunk in
      let p = has.placed here_passes in
      let lists : p.0 ≡ many.firsts = AreFirsts-unique P (InOneRegion less chunk) IsBefore IsBefore-asym p.0 few.firsts p.1.0 few_are.first_cells ∙ firsts in
      record {
        blocked = λ shut. let passes_too = still cell here_passes in absurd (cc);
        placed = λ passes_too. (
          many.firsts,
          (
            many_are.first_cells,
            (
              p.1.1.0,
              (
                p.1.1.1.0,
                (
                  ap (λ (xs : List Cell). slice_get xs p.1.1.0) (sym lists) ∙ p.1.1.1.1.0,
                  (joined_wider P Q still cell p.1.1.1.0 p.1.1.1.1.1.0, p.1.1.1.1.1.1),
                ),
              ),
            ),
          ),
        );
      }

  -- and where fewer do
  number_narrower : (cell : Cell) (number : ℕ) → IsTrue (passes_in less chunk cell) → HasRegion more chunk cell number
      → HasRegion less chunk cell number
  number_narrower cell number here_passes has =
      let lies = lies_in less chunk cell here_passes in
      let there : IsInRect few.cells.rect cell = subst (λ (rect : Rect). IsInRect rect cell) (sym few_are.extent)
      (in_rect size chunk cell (inside cell lies.passable) lies.column lies.row) in
      let own = few_are.numbers cell there in
      let same = one_region more chunk cell (number_of few.cells cell) number (number_wider cell (number_of few.cells cell) here_passes own) has in
      subst (λ (n : ℕ). HasRegion less chunk cell n) same own

  -- the regions of cells of a kind that pass in both maps or in neither
  same_wider : (Among : Cell → Type 0)
      → ((cell : Cell) → Among cell → IsTrue (passes_in more chunk cell) → IsTrue (passes_in less chunk cell))
      → SameRegions less more chunk Among
  same_wider Among back = (
    record {
      passes = λ cell among here_passes. still cell here_passes;
      numbers = λ cell number among here_passes has. number_wider cell number here_passes has;
    },
    record {
      passes = back;
      numbers = λ cell number among here_passes has. number_narrower cell number (back cell among here_passes) has;
    },
  )

-- ---- a part whose cells change one way only

-- the cells of the chunk that pass before still do, where those of the part do and the others are as they were
still_in : (before now : Cell → Bool) (chunk : Chunk) (part : Rect) → StillPass before now part
    → ((cell : Cell) → chunk_of cell ≡ chunk → (IsInRect part cell → ⊥) → before cell ≡ now cell)
    → (cell : Cell) → IsTrue (passes_in before chunk cell) → IsTrue (passes_in now chunk cell)
still_in before now chunk part still same cell here_passes =
    let lies = lies_in before chunk cell here_passes in
    let place = and_parts ((cell.i / 96 == chunk.ci) && (cell.j / 96 == chunk.cj)) (before cell) here_passes in
    and_from ((cell.i / 96 == chunk.ci) && (cell.j / 96 == chunk.cj)) (now cell) place.0
    (in_rect_or_not part cell (λ within. still cell within lies.passable)
    (λ out. sym (same cell lies.in_chunk out) ∙ lies.passable))

-- outside of the part, the cells that pass now did
back_outside : (before now : Cell → Bool) (chunk : Chunk) (part : Rect)
    → ((cell : Cell) → chunk_of cell ≡ chunk → (IsInRect part cell → ⊥) → before cell ≡ now cell)
    → (cell : Cell) → (IsInRect part cell → ⊥) → IsTrue (passes_in now chunk cell) → IsTrue (passes_in before chunk cell)
back_outside before now chunk part same cell out here_passes =
    let lies = lies_in now chunk cell here_passes in
    let place = and_parts ((cell.i / 96 == chunk.ci) && (cell.j / 96 == chunk.cj)) (now cell) here_passes in
    and_from ((cell.i / 96 == chunk.ci) && (cell.j / 96 == chunk.cj)) (before cell) place.0
    (same cell lies.in_chunk out ∙ lies.passable)

pub part_kept : (before now : Cell → Bool) (size : Size) (part : DirtyPart) (rects : List Rect) (were are : Labelling)
    → PassesInside before size → PassesInside now size → IsReachedPart size rects part
    → AreLabels before size (chunk_numbered size part.place) were → AreLabels now size (chunk_numbered size part.place) are
    → are.firsts ≡ were.firsts → ((cell : Cell) → IsFalse (is_in_some rects cell) → before cell ≡ now cell)
    → ChangesOneWay before now part.rect → IsKeptPart before now size part
part_kept before now size part rects were are before_in now_in reached were_are are_are firsts covered one_way =
    let chunk = chunk_numbered size part.place in
    let rect = part.rect in
    let same : (cell : Cell) → chunk_of cell ≡ chunk → (IsInRect rect cell → ⊥) → before cell ≡ now cell = λ cell here out.
    same_unless (before cell) (now cell) (λ apart.
    let inside = differing_inside before now size before_in now_in cell apart in
    let there : IsInRect (chunk_rect size chunk) cell = in_rect size chunk cell inside (ap (λ (c : Chunk). c.ci) here) (ap (λ (c : Chunk). c.cj) here) in
    apart (covered cell (false_from_ne_true (is_in_some rects cell) (λ is. out (reached.holds.held cell there is))))) in
    let turned : (cell : Cell) → chunk_of cell ≡ chunk → (IsInRect rect cell → ⊥) → now cell ≡ before cell = λ cell here out.
    sym (same cell here out) in
    let Out : Cell → Type 0 = λ cell. IsInRect rect cell → ⊥ in
    record {
      inside = reached.holds.inside;
      same = elim one_way [
        | inl freed ↦
            same_wider before now size chunk were are before_in were_are are_are (sym firsts) (still_in before now chunk rect freed same)
            Out (back_outside before now chunk rect same)
        | inr blocked ↦
            let both = same_wider now before size chunk are were now_in are_are were_are firsts
            (still_in now before chunk rect blocked turned) Out (back_outside now before chunk rect turned) in
            (both.1, both.0)
      ];
    }

-- ---- along a border

-- where two maps agree on a chunk, all is the same
keep_agreeing : (before now : Cell → Bool) (chunk : Chunk) (Among : Cell → Type 0) → passes_in before chunk ≡ passes_in now chunk
    → KeepRegions before now chunk Among
keep_agreeing before now chunk Among same = record {
  passes = λ cell among here_passes. subst (λ (P : Cell → Bool). IsTrue (P cell)) same here_passes;
  numbers = λ cell number among here_passes has. same_region_number before now chunk cell number same has;
}

pub same_agreeing : (before now : Cell → Bool) (chunk : Chunk) (Among : Cell → Type 0) → AgreeInChunk before now chunk
    → SameRegions before now chunk Among
same_agreeing before now chunk Among agree =
    let same = same_in before now chunk agree in
    (keep_agreeing before now chunk Among same, keep_agreeing now before chunk Among (sym same))

-- fewer cells
keep_fewer : (before now : Cell → Bool) (chunk : Chunk) (Among Other : Cell → Type 0) → ((cell : Cell) → Other cell → Among cell)
    → KeepRegions before now chunk Among → KeepRegions before now chunk Other
keep_fewer before now chunk Among Other fewer keep = record {
  passes = λ cell other here_passes. keep.passes cell (fewer cell other) here_passes;
  numbers = λ cell number other here_passes has. keep.numbers cell number (fewer cell other) here_passes has;
}

-- the chunk of a part that has no cell of a kind
pub same_apart : (before now : Cell → Bool) (size : Size) (part : DirtyPart) (Among : Cell → Type 0)
    → ((cell : Cell) → Among cell → IsInRect part.rect cell → ⊥) → IsKeptPart before now size part
    → SameRegions before now (chunk_numbered size part.place) Among
same_apart before now size part Among apart kept =
    let chunk = chunk_numbered size part.place in
    let Out : Cell → Type 0 = λ cell. IsInRect part.rect cell → ⊥ in (
      keep_fewer before now chunk Out Among apart kept.same.0,
      keep_fewer now before chunk Out Among apart kept.same.1,
    )

-- a neighbour with a part that has no cell of the border, which may lie outside both maps
pub neighbour_kept : (before now : Cell → Bool) (size : Size) (class : ℕ) (bits : List ℕ) (side : ChunkSide) (place next : ℕ) (part : Rect)
    → AreChanges before now size class bits → chunk_place size (neighbour_on side (chunk_numbered size place)) ≡ next
    → ((cell : Cell) → IsFirstOn side cell → IsInRect part cell → ⊥)
    → IsKeptPart before now size (record { place = next; rect = part })
    → SameRegions before now (neighbour_on side (chunk_numbered size place)) (IsFirstOn side)
neighbour_kept before now size class bits side place next part changes is apart kept =
    let there = neighbour_on side (chunk_numbered size place) in
    elim (cases_lt (96 * there.ci) size.w) [
      | inl column ↦ elim (cases_lt (96 * there.cj) size.h) [
        | inl row ↦
            let inside : IsChunkInside size there = record { column = column; row = row } in
            let same : chunk_numbered size next ≡ there = ap (λ (k : ℕ). chunk_numbered size k) (sym is) ∙ numbered-place size there inside in
            subst (λ (chunk : Chunk). SameRegions before now chunk (IsFirstOn side)) same
            (same_apart before now size (record { place = next; rect = part }) (IsFirstOn side) apart kept)
        | inr past ↦
            same_agreeing before now there (IsFirstOn side)
            (outside_agrees before now size class bits there changes (λ inside. let row = inside.row in omega arith))
      ]
      | inr past ↦
          same_agreeing before now there (IsFirstOn side)
          (outside_agrees before now size class bits there changes (λ inside. let column = inside.column in omega arith))
    ]

-- the listed part is kept
pub kept_listed : (before now : Cell → Bool) (size : Size) (kept : List DirtyPart) (part : DirtyPart)
    → All (IsKeptPart before now size) kept → Contains kept part → IsKeptPart before now size part
kept_listed before now size kept part all listed =
    subst (IsKeptPart before now size) listed.2 (all listed.0 part listed.1)

-- an edge leads from the last column or row of its chunk to the first one of the neighbour
record StandsOn (side : ChunkSide) (from to : Cell) : Type 0 where
  last : IsLastOn side from
  first : IsFirstOn side to

stands_on : (passes : Cell → Bool) (side : ChunkSide) (here there : Chunk) (near far : ℕ) → LiesOn side here there
    → (edge : IsEdge passes here there near far) → StandsOn side edge.from edge.to
stands_on passes East here there near far lies edge =
    let a = lies_in passes here edge.from edge.from_passes in
    let b = lies_in passes there edge.to edge.to_passes in
    let goes = goes_on passes East here there edge.from edge.to lies a b edge.beside in
    let ac = a.column in let bc = b.column in let lc = lies.0 in let gc = goes.0 in
    record { last = omega arith; first = omega arith }
stands_on passes North here there near far lies edge =
    let a = lies_in passes here edge.from edge.from_passes in
    let b = lies_in passes there edge.to edge.to_passes in
    let goes = goes_on passes North here there edge.from edge.to lies a b edge.beside in
    let ar = a.row in let br = b.row in let lr = lies.1 in let gr = goes.1 in
    record { last = omega arith; first = omega arith }

edge_kept : (before now : Cell → Bool) (side : ChunkSide) (here there : Chunk) (near far : ℕ) → LiesOn side here there
    → KeepRegions before now here (IsLastOn side) → KeepRegions before now there (IsFirstOn side)
    → IsEdge before here there near far → IsEdge now here there near far
edge_kept before now side here there near far lies own other edge =
    let stands = stands_on before side here there near far lies edge in
    record {
      from = edge.from;
      to = edge.to;
      beside = edge.beside;
      from_passes = own.passes edge.from stands.last edge.from_passes;
      to_passes = other.passes edge.to stands.first edge.to_passes;
      from_region = own.numbers edge.from near stands.last edge.from_passes edge.from_region;
      to_region = other.numbers edge.to far stands.first edge.to_passes edge.to_region;
    }

-- edges look at the regions along the border alone
pub edges_kept : (before now : Cell → Bool) (side : ChunkSide) (here there : Chunk) (edges : List (ℕ × ℕ)) → LiesOn side here there
    → SameRegions before now here (IsLastOn side) → SameRegions before now there (IsFirstOn side)
    → AreEdges before here there edges → AreEdges now here there edges
edges_kept before now side here there edges lies own other are = record {
  each = λ near far listed. edge_kept before now side here there near far lies own.0 other.0 (are.each near far listed);
  all = λ near far edge. are.all near far (edge_kept now before side here there near far lies own.1 other.1 edge);
  rising = are.rising;
}
