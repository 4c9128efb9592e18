-- The region edges of two neighbouring chunks are the pairs that meet along their border.
use Rattle.std.proofs.Common.{ℕ, ◌≡◌, ◌≢◌, ◌<◌, ◌+◌, ◌-◌, ◌/◌, ◌↔◌, Bool, List, IsTrue, refl, ap, inl, inr, sym, subst, ◌∙◌, arith}
use Rattle.std.specs.List.{AllPairs, Contains}
use Rattle.std.proofs.lemmas.Bool.{cases_Bool}
use Rattle.nav_types.specs.declared.cells.Cell.{Cell}
use Rattle.nav_types.specs.declared.cells.Chunk.{Chunk}
use Rattle.nav_types.specs.declared.cells.Rect.{Rect}
use Rattle.nav_types.specs.declared.cells.Size.{Size}
use Rattle.nav_types.specs.declared.directions.Dir.{Dir}
use Rattle.nav_types.specs.declared.directions.Dir.TheVariants.{N, E, S, W, NE, SE, SW, NW}
use Rattle.nav_types.specs.Cells.{IsInside, IsInRect}
use Rattle.nav_types.specs.Directions.{is_straight, Leads}
use Rattle.nav_types.specs.Regions.{passes_in, HasRegion, IsBeside, IsEdge}
use Rattle.nav_types.specs.Numbering.{number_of}
use Rattle.chunk_regions.specs.Labelling.{Labelling, AreLabels}
use Rattle.nav_types.specs.Rects.{chunk_rect}
use Rattle.nav_types.proofs.CellOrder.{same_cell}
use Rattle.nav_types.proofs.Regions.{LiesIn, lies_in}
use Rattle.chunk_regions.proofs.LabelLemmas.{in_rect}
use Rattle.region_edges.specs.declared.neighbours.ChunkSide.{ChunkSide}
use Rattle.region_edges.specs.declared.neighbours.ChunkSide.TheVariants.{East, North}
use Rattle.region_edges.specs.Edges.{LiesOn, AreNeighbours, PassesInside, IsPairBefore, AreEdges}
use Rattle.region_edges.specs.inner.Borders.{border_length, near_cell, far_cell, Meets}

-- two rectangles have the same ends
record SameEnds (a b : Rect) : Type 0 where
  i0 : a.i0 ≡ b.i0
  j0 : a.j0 ≡ b.j0
  i1 : a.i1 ≡ b.i1
  j1 : a.j1 ≡ b.j1

ends : (a b : Rect) → a ≡ b → SameEnds a b
ends a b same = record {
  i0 = ap (λ (r : Rect). r.i0) same;
  j0 = ap (λ (r : Rect). r.j0) same;
  i1 = ap (λ (r : Rect). r.i1) same;
  j1 = ap (λ (r : Rect). r.j1) same;
}

-- the first cell of a pair along the border is one of the chunk here
near_inside : (side : ChunkSide) (here there : Labelling) → AreNeighbours side here there → (at : ℕ) → at < border_length side here.cells.rect
    → IsInRect here.cells.rect (near_cell side here.cells.rect at)
near_inside East here there next at within =
    let own = ends here.cells.rect (chunk_rect next.size here.chunk) next.here_extent in
    let other = ends there.cells.rect (chunk_rect next.size there.chunk) next.there_extent in
    let column = next.lies.0 in
    let row = next.lies.1 in
    let wide = next.columns in
    let high = next.rows in
    record { west = omega arith; east = omega arith; south = omega arith; north = omega arith }
near_inside North here there next at within =
    let own = ends here.cells.rect (chunk_rect next.size here.chunk) next.here_extent in
    let other = ends there.cells.rect (chunk_rect next.size there.chunk) next.there_extent in
    let column = next.lies.0 in
    let row = next.lies.1 in
    let wide = next.columns in
    let high = next.rows in
    record { west = omega arith; east = omega arith; south = omega arith; north = omega arith }

-- the second is one of the chunk there
far_inside : (side : ChunkSide) (here there : Labelling) → AreNeighbours side here there → (at : ℕ) → at < border_length side here.cells.rect
    → IsInRect there.cells.rect (far_cell side there.cells.rect at)
far_inside East here there next at within =
    let own = ends here.cells.rect (chunk_rect next.size here.chunk) next.here_extent in
    let other = ends there.cells.rect (chunk_rect next.size there.chunk) next.there_extent in
    let column = next.lies.0 in
    let row = next.lies.1 in
    let wide = next.columns in
    let high = next.rows in
    record { west = omega arith; east = omega arith; south = omega arith; north = omega arith }
far_inside North here there next at within =
    let own = ends here.cells.rect (chunk_rect next.size here.chunk) next.here_extent in
    let other = ends there.cells.rect (chunk_rect next.size there.chunk) next.there_extent in
    let column = next.lies.0 in
    let row = next.lies.1 in
    let wide = next.columns in
    let high = next.rows in
    record { west = omega arith; east = omega arith; south = omega arith; north = omega arith }

-- the two lie side by side
side_by_side : (side : ChunkSide) (here there : Labelling) → AreNeighbours side here there → (at : ℕ)
    → IsBeside (near_cell side here.cells.rect at) (far_cell side there.cells.rect at)
side_by_side East here there next at =
    let own = ends here.cells.rect (chunk_rect next.size here.chunk) next.here_extent in
    let other = ends there.cells.rect (chunk_rect next.size there.chunk) next.there_extent in
    let column = next.lies.0 in
    let row = next.lies.1 in
    let wide = next.columns in
    let high = next.rows in
    (E, (refl, record { columns = omega arith; rows = omega arith }))
side_by_side North here there next at =
    let own = ends here.cells.rect (chunk_rect next.size here.chunk) next.here_extent in
    let other = ends there.cells.rect (chunk_rect next.size there.chunk) next.there_extent in
    let column = next.lies.0 in
    let row = next.lies.1 in
    let wide = next.columns in
    let high = next.rows in
    (N, (refl, record { columns = omega arith; rows = omega arith }))

-- a cell with a region is passable in the chunk
passes_from_number : (passes : Cell → Bool) (chunk : Chunk) (cell : Cell) (number : ℕ) → HasRegion passes chunk cell number → number ≢ 0
    → IsTrue (passes_in passes chunk cell)
passes_from_number passes chunk cell number has real = elim (cases_Bool (passes_in passes chunk cell)) [
  | inl passable ↦ passable
  | inr blocked ↦ absurd (real (has.blocked blocked))
]

-- a passable cell has a region
number_from_passes : (passes : Cell → Bool) (chunk : Chunk) (cell : Cell) (number : ℕ) → HasRegion passes chunk cell number
    → IsTrue (passes_in passes chunk cell) → number ≢ 0
number_from_passes passes chunk cell number has passable none =
    let value = (has.placed passable).1.1.1.1.1.1 in omega arith

-- the pairs that meet are edges
edge_from_meeting : (side : ChunkSide) (here there : Labelling) → AreNeighbours side here there → (passes : Cell → Bool) (size : Size)
    → AreLabels passes size here.chunk here → AreLabels passes size there.chunk there → (near far : ℕ)
    → Meets side here there (border_length side here.cells.rect) (near, far) → IsEdge passes here.chunk there.chunk near far
edge_from_meeting side here there next passes size own other near far meets =
    let from = near_cell side here.cells.rect meets.at in
    let to = far_cell side there.cells.rect meets.at in
    let near_is : number_of here.cells from ≡ near = ap (λ (p : ℕ × ℕ). p.0) meets.is in
    let far_is : number_of there.cells to ≡ far = ap (λ (p : ℕ × ℕ). p.1) meets.is in
    let from_region : HasRegion passes here.chunk from near = subst (λ (n : ℕ). HasRegion passes here.chunk from n) near_is
    (own.numbers from (near_inside side here there next meets.at meets.within)) in
    let to_region : HasRegion passes there.chunk to far = subst (λ (n : ℕ). HasRegion passes there.chunk to n) far_is
    (other.numbers to (far_inside side here there next meets.at meets.within)) in
    record {
      from = from;
      to = to;
      beside = side_by_side side here there next meets.at;
      from_passes = passes_from_number passes here.chunk from near from_region meets.near_passable;
      to_passes = passes_from_number passes there.chunk to far to_region meets.far_passable;
      from_region = from_region;
      to_region = to_region;
    }

-- a straight step into the chunk on that side goes one column east, or one row north
abbrev pub GoesOn : ChunkSide → Cell → Cell → Type 0
GoesOn East from to = (to.i ≡ from.i + 1) × (to.j ≡ from.j)
GoesOn North from to = (to.i ≡ from.i) × (to.j ≡ from.j + 1)

goes_east : (dir : Dir) (from to : Cell) → IsTrue (is_straight dir) → Leads dir from to → to.i / 96 ≡ from.i / 96 + 1 → to.j / 96 ≡ from.j / 96
    → GoesOn East from to
goes_east N from to straight leads column row = let a = leads.columns in let b = leads.rows in absurd (omega arith)
goes_east E from to straight leads column row = let a = leads.columns in let b = leads.rows in (omega arith, omega arith)
goes_east S from to straight leads column row = let a = leads.columns in let b = leads.rows in absurd (omega arith)
goes_east W from to straight leads column row = let a = leads.columns in let b = leads.rows in absurd (omega arith)
goes_east NE from to straight leads column row = absurd (cc)
goes_east SE from to straight leads column row = absurd (cc)
goes_east SW from to straight leads column row = absurd (cc)
goes_east NW from to straight leads column row = absurd (cc)

goes_north : (dir : Dir) (from to : Cell) → IsTrue (is_straight dir) → Leads dir from to → to.i / 96 ≡ from.i / 96 → to.j / 96 ≡ from.j / 96 + 1
    → GoesOn North from to
goes_north N from to straight leads column row = let a = leads.columns in let b = leads.rows in (omega arith, omega arith)
goes_north E from to straight leads column row = let a = leads.columns in let b = leads.rows in absurd (omega arith)
goes_north S from to straight leads column row = let a = leads.columns in let b = leads.rows in absurd (omega arith)
goes_north W from to straight leads column row = let a = leads.columns in let b = leads.rows in absurd (omega arith)
goes_north NE from to straight leads column row = absurd (cc)
goes_north SE from to straight leads column row = absurd (cc)
goes_north SW from to straight leads column row = absurd (cc)
goes_north NW from to straight leads column row = absurd (cc)

pub goes_on : (passes : Cell → Bool) (side : ChunkSide) (here there : Chunk) (from to : Cell) → LiesOn side here there → LiesIn passes here from
    → LiesIn passes there to → IsBeside from to → GoesOn side from to
goes_on passes East here there from to lies a b beside =
    let ac = a.column in let ar = a.row in let bc = b.column in let br = b.row in let lc = lies.0 in let lr = lies.1 in
    goes_east beside.0 from to beside.1.0 beside.1.1 (omega arith) (omega arith)
goes_on passes North here there from to lies a b beside =
    let ac = a.column in let ar = a.row in let bc = b.column in let br = b.row in let lc = lies.0 in let lr = lies.1 in
    goes_north beside.0 from to beside.1.0 beside.1.1 (omega arith) (omega arith)

-- the two cells are the pair at a place along the border
record StandsAt (side : ChunkSide) (here there : Rect) (from to : Cell) : Type 0 where
  at : ℕ
  within : at < border_length side here
  near_is : near_cell side here at ≡ from
  far_is : far_cell side there at ≡ to

stands_at : (passes : Cell → Bool) (size : Size) (side : ChunkSide) (here there : Chunk) (own other : Rect) (from to : Cell) → LiesOn side here there
    → own ≡ chunk_rect size here → other ≡ chunk_rect size there → IsInside size from → IsInside size to
    → LiesIn passes here from → LiesIn passes there to → GoesOn side from to → StandsAt side own other from to
stands_at passes size East here there own other from to lies own_is other_is a_in b_in a b goes =
    let p = ends own (chunk_rect size here) own_is in
    let q = ends other (chunk_rect size there) other_is in
    let ac = a.column in let ar = a.row in let bc = b.column in let br = b.row in let lc = lies.0 in let lr = lies.1 in
    let gc = goes.0 in let gr = goes.1 in let ai = a_in.column in let aj = a_in.row in let bi = b_in.column in let bj = b_in.row in
    record {
      at = from.j - own.j0;
      within = omega arith;
      near_is = same_cell (near_cell East own (from.j - own.j0)) from (omega arith) (omega arith);
      far_is = same_cell (far_cell East other (from.j - own.j0)) to (omega arith) (omega arith);
    }
stands_at passes size North here there own other from to lies own_is other_is a_in b_in a b goes =
    let p = ends own (chunk_rect size here) own_is in
    let q = ends other (chunk_rect size there) other_is in
    let ac = a.column in let ar = a.row in let bc = b.column in let br = b.row in let lc = lies.0 in let lr = lies.1 in
    let gc = goes.0 in let gr = goes.1 in let ai = a_in.column in let aj = a_in.row in let bi = b_in.column in let bj = b_in.row in
    record {
      at = from.i - own.i0;
      within = omega arith;
      near_is = same_cell (near_cell North own (from.i - own.i0)) from (omega arith) (omega arith);
      far_is = same_cell (far_cell North other (from.i - own.i0)) to (omega arith) (omega arith);
    }

-- a cell has one region number at most
abbrev pub IsOneRegion : Type 0
IsOneRegion = (passes : Cell → Bool) (chunk : Chunk) (cell : Cell) (m n : ℕ) → HasRegion passes chunk cell m → HasRegion passes chunk cell n → m ≡ n

-- the number of a cell that has a region is that of the labels
number_is : IsOneRegion → (passes : Cell → Bool) (size : Size) (labels : Labelling) → PassesInside passes size → AreLabels passes size labels.chunk labels
    → (cell : Cell) (number : ℕ) → IsTrue (passes_in passes labels.chunk cell) → HasRegion passes labels.chunk cell number → number_of labels.cells cell ≡ number
number_is one passes size labels inside are cell number passable has =
    let lies = lies_in passes labels.chunk cell passable in
    let place = in_rect size labels.chunk cell (inside cell lies.passable) lies.column lies.row in
    one passes labels.chunk cell (number_of labels.cells cell) number
    (are.numbers cell (subst (λ (rect : Rect). IsInRect rect cell) (sym are.extent) place)) has

-- the edges are pairs that meet
meeting_from_edge : IsOneRegion → (side : ChunkSide) (here there : Labelling) → AreNeighbours side here there → (passes : Cell → Bool) (size : Size)
    → PassesInside passes size → AreLabels passes size here.chunk here → AreLabels passes size there.chunk there → (near far : ℕ)
    → IsEdge passes here.chunk there.chunk near far → Meets side here there (border_length side here.cells.rect) (near, far)
meeting_from_edge one side here there next passes size inside own other near far edge =
    let a = lies_in passes here.chunk edge.from edge.from_passes in
    let b = lies_in passes there.chunk edge.to edge.to_passes in
    let goes = goes_on passes side here.chunk there.chunk edge.from edge.to next.lies a b edge.beside in
    let stands = stands_at passes size side here.chunk there.chunk here.cells.rect there.cells.rect edge.from edge.to next.lies own.extent other.extent
    (inside edge.from a.passable) (inside edge.to b.passable) a b goes in
    let near_is : number_of here.cells (near_cell side here.cells.rect stands.at) ≡ near =
    ap (λ (cell : Cell). number_of here.cells cell) stands.near_is ∙ number_is one passes size here inside own edge.from near edge.from_passes edge.from_region in
    let far_is : number_of there.cells (far_cell side there.cells.rect stands.at) ≡ far =
    ap (λ (cell : Cell). number_of there.cells cell) stands.far_is ∙ number_is one passes size there inside other edge.to far edge.to_passes edge.to_region in
    let first : ℕ → ℕ × ℕ = λ (n : ℕ). (n, number_of there.cells (far_cell side there.cells.rect stands.at)) in
    let second : ℕ → ℕ × ℕ = λ (n : ℕ). (near, n) in
    record {
      at = stands.at;
      within = stands.within;
      is = ap first near_is ∙ ap second far_is;
      near_passable = number_from_passes passes here.chunk edge.from near edge.from_region edge.from_passes;
      far_passable = number_from_passes passes there.chunk edge.to far edge.to_region edge.to_passes;
    }

-- the pairs that meet along the border, in order, are the region edges
pub AreEdges-from_meetings : IsOneRegion → (side : ChunkSide) (here there : Labelling) → AreNeighbours side here there → (edges : List (ℕ × ℕ))
    → ((pair : ℕ × ℕ) → Contains edges pair ↔ Meets side here there (border_length side here.cells.rect) pair) → AllPairs IsPairBefore edges
    → (passes : Cell → Bool) (size : Size) → PassesInside passes size
    → AreLabels passes size here.chunk here → AreLabels passes size there.chunk there → AreEdges passes here.chunk there.chunk edges
AreEdges-from_meetings one side here there next edges meet rising passes size inside own other = record {
  each = λ near far within. edge_from_meeting side here there next passes size own other near far ((meet (near, far)).0 within);
  all = λ near far edge. (meet (near, far)).1 (meeting_from_edge one side here there next passes size inside own other near far edge);
  rising = rising;
}
