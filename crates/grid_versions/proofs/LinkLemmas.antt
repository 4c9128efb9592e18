-- Links join the regions of two cells exactly where a legal walk joins the cells.
use Rattle.std.proofs.Common.{◌≡◌, ◌+◌, ◌/◌, ◌⊎◌, Bool, true, List, [], ◌∷◌, IsTrue, refl, ap, inl, inr, sym, subst, ◌∙◌, arith}
use Rattle.std.specs.List.{AllPass}
use Rattle.std.proofs.lemmas.Bool.{cases_order}
use Rattle.std.proofs.lemmas.List.Elements.{All-head, All-tail}
use Rattle.nav_types.specs.declared.cells.Cell.{Cell}
use Rattle.nav_types.specs.declared.cells.Chunk.{Chunk}
use Rattle.nav_types.specs.declared.cells.Size.{Size}
use Rattle.nav_types.specs.declared.directions.Dir.{Dir}
use Rattle.nav_types.specs.declared.directions.Dir.TheVariants.{N, E, S, W, NE, SE, SW, NW}
use Rattle.nav_types.specs.Cells.{chunk_of}
use Rattle.nav_types.specs.Directions.{is_straight, Leads}
use Rattle.nav_types.specs.Walks.{IsWalk, Joined}
use Rattle.nav_types.specs.Regions.{passes_in, JoinedStraight, InOneRegion, HasRegion, IsNextChunk, IsBeside}
use Rattle.nav_types.proofs.CellOrder.{same_chunk}
use Rattle.nav_types.proofs.Walking.{IsBeside-back, JoinedStraight-refl, JoinedStraight-beside, JoinedStraight-trans, JoinedStraight-from_Joined, Joined-from_straight}
use Rattle.region_edges.specs.Edges.{PassesInside}
use Rattle.reach_sets.specs.declared.regions.RegionId.{RegionId}
use Rattle.reach_sets.specs.Chains.{Either, IsChain}
use Rattle.reach_sets.specs.AreaNumbers.{IsLink, AreJoined}
use Rattle.reach_sets.proofs.ChainLemmas.{chained_same, chained_once, chained_on, chained_back}
use Rattle.reach_sets.proofs.RowLemmas.{same_region}
use Rattle.grid_versions.specs.Chunks.{chunk_place}
use Rattle.grid_versions.specs.inner.Tables.{Tables, AreTables, HaveEdge, region_in}
use Rattle.nav_types.proofs.Regions.{lies_in, one_region}
use Rattle.grid_versions.proofs.ChunkLemmas.{passes_own}
use Rattle.grid_versions.proofs.RegionLemmas.{has_region, joined_from_same, same_from_joined}

-- ---- walks

-- a walk over cells that pass stays one where more cells pass
walk_of_more : (few more : Cell → Bool) → ((cell : Cell) → IsTrue (few cell) → IsTrue (more cell)) → (dirs : List Dir) (a b : Cell) → IsWalk few a dirs b → IsWalk more a dirs b
walk_of_more few more kept [] a b walk = walk
walk_of_more few more kept (dir ∷ dirs) a b walk =
    let step = walk.1.0 in (
      walk.0,
      (
        record {
          leads = step.leads;
          start = kept a step.start;
          next = kept walk.0 step.next;
          side = kept (record { j = a.j; i = walk.0.i }) step.side;
          ahead = kept (record { j = walk.0.j; i = a.i }) step.ahead;
        },
        walk_of_more few more kept dirs walk.0 b walk.1.1,
      ),
    )

-- a walk inside a chunk is a walk
pub JoinedStraight-from_region : (passes : Cell → Bool) (chunk : Chunk) (a b : Cell) → InOneRegion passes chunk a b → JoinedStraight passes a b
JoinedStraight-from_region passes chunk a b joined =
    (joined.0, (joined.1.0, walk_of_more (passes_in passes chunk) passes (λ cell here. (lies_in passes chunk cell here).passable) joined.0 a b joined.1.1))

-- ---- a straight step stays in its chunk or leads to a neighbour

abbrev Crosses : Chunk → Chunk → Type 0
Crosses here there = (here ≡ there) ⊎ (IsNextChunk here there ⊎ IsNextChunk there here)

crosses_column : (a b : Cell) → b.i ≡ a.i + 1 → b.j ≡ a.j → Crosses (chunk_of a) (chunk_of b)
crosses_column a b column row = elim (cases_order (a.i / 96) (b.i / 96)) [
  | inl same ↦ inl (same_chunk (chunk_of a) (chunk_of b) same (omega arith))
  | inr apart ↦ elim apart [
    | inl less ↦ inr (inl (inl (omega arith, omega arith)))
    | inr more ↦ absurd (omega arith)
  ]
]

crosses_row : (a b : Cell) → b.i ≡ a.i → b.j ≡ a.j + 1 → Crosses (chunk_of a) (chunk_of b)
crosses_row a b column row = elim (cases_order (a.j / 96) (b.j / 96)) [
  | inl same ↦ inl (same_chunk (chunk_of a) (chunk_of b) (omega arith) same)
  | inr apart ↦ elim apart [
    | inl less ↦ inr (inl (inr (omega arith, omega arith)))
    | inr more ↦ absurd (omega arith)
  ]
]

crosses_back : (here there : Chunk) → Crosses here there → Crosses there here
crosses_back here there crosses = elim crosses [
  | inl same ↦ inl (sym same)
  | inr other ↦ elim other [ inl on ↦ inr (inr on) | inr off ↦ inr (inl off) ]
]

crosses_by : (dir : Dir) (a b : Cell) → IsTrue (is_straight dir) → Leads dir a b → Crosses (chunk_of a) (chunk_of b)
crosses_by N a b straight leads = let c = leads.columns in let r = leads.rows in crosses_row a b (omega arith) (omega arith)
crosses_by E a b straight leads = let c = leads.columns in let r = leads.rows in crosses_column a b (omega arith) (omega arith)
crosses_by S a b straight leads = let c = leads.columns in let r = leads.rows in crosses_back (chunk_of b) (chunk_of a) (crosses_row b a (omega arith) (omega arith))
crosses_by W a b straight leads = let c = leads.columns in let r = leads.rows in crosses_back (chunk_of b) (chunk_of a) (crosses_column b a (omega arith) (omega arith))
crosses_by NE a b straight leads = absurd (cc)
crosses_by SE a b straight leads = absurd (cc)
crosses_by SW a b straight leads = absurd (cc)
crosses_by NW a b straight leads = absurd (cc)

-- two cells that an edge joins, whose regions are these
pub record HasTouch (passes : Cell → Bool) (size : Size) (tables : Tables) (a b : RegionId) : Type 0 where
  pub from : Cell
  pub to : Cell
  pub beside : IsBeside from to
  pub from_passes : IsTrue (passes from)
  pub to_passes : IsTrue (passes to)
  pub from_is : region_in size tables from ≡ a
  pub to_is : region_in size tables to ≡ b

module _ (passes : Cell → Bool) (size : Size) (tables : Tables) (inside : PassesInside passes size) (are : AreTables passes size tables) where
  -- passable cells side by side in neighbouring chunks: an edge joins their regions
  touching : (a b : Cell) → IsBeside a b → IsTrue (passes a) → IsTrue (passes b) → IsNextChunk (chunk_of a) (chunk_of b)
      → HaveEdge passes size (region_in size tables a) (region_in size tables b)
  touching a b beside here there next = record {
    here = chunk_of a;
    there = chunk_of b;
    next = next;
    edge = record {
      from = a;
      to = b;
      beside = beside;
      from_passes = passes_own passes a here;
      to_passes = passes_own passes b there;
      from_region = has_region passes size tables are a (inside a here);
      to_region = has_region passes size tables are b (inside b there);
    };
    from = refl;
    to = refl;
  }

  -- passable cells side by side: their regions are joined
  pub step_joined : (a b : Cell) → IsBeside a b → IsTrue (passes a) → IsTrue (passes b)
      → AreJoined are.links (region_in size tables a) (region_in size tables b)
  step_joined a b beside here there =
      let x = region_in size tables a in let y = region_in size tables b in
      elim (crosses_by beside.0 a b beside.1.0 beside.1.1) [
        | inl same ↦
            let P = passes_in passes (chunk_of a) in
            let b_in : IsTrue (P b) = subst (λ (chunk : Chunk). IsTrue (passes_in passes chunk b)) (sym same) (passes_own passes b there) in
            let joined = JoinedStraight-beside P a b b beside (passes_own passes a here) b_in (JoinedStraight-refl P b) in
            chained_same (IsLink are.links) x y (same_from_joined passes size tables are a b (inside a here) (inside b there) here there same joined)
        | inr other ↦ elim other [
          | inl on ↦ chained_once (IsLink are.links) x y (are.links_are.all x y (touching a b beside here there on))
          | inr off ↦ chained_back (IsLink are.links) y x
              (chained_once (IsLink are.links) y x (are.links_are.all y x (touching b a (IsBeside-back a b beside) there here off)))
        ]
      ]

  walk_joined : (dirs : List Dir) (a b : Cell) → AllPass is_straight dirs → IsWalk passes a dirs b
      → AreJoined are.links (region_in size tables a) (region_in size tables b)
  walk_joined [] a b straight walk =
      chained_same (IsLink are.links) (region_in size tables a) (region_in size tables b) (ap (λ (cell : Cell). region_in size tables cell) walk)
  walk_joined (dir ∷ dirs) a b straight walk =
      let first : IsTrue (is_straight dir) = All-head (λ way. is_straight way ≡ true) dir dirs straight in
      let rest = All-tail (λ way. is_straight way ≡ true) dir dirs straight in
      chained_on (IsLink are.links) (region_in size tables a) (region_in size tables walk.0) (region_in size tables b)
      (step_joined a walk.0 (dir, (first, walk.1.0.leads)) walk.1.0.start walk.1.0.next)
      (walk_joined dirs walk.0 b rest walk.1.1)

  -- cells that a legal walk joins have joined regions
  pub regions_joined : (a b : Cell) → Joined passes a b → AreJoined are.links (region_in size tables a) (region_in size tables b)
  regions_joined a b joined =
      let straight = JoinedStraight-from_Joined passes a b joined in
      walk_joined straight.0 a b straight.1.0 straight.1.1

  -- an edge is between two cells with these regions
  pub has_touch : (a b : RegionId) → HaveEdge passes size a b → HasTouch passes size tables a b
  has_touch a b touch =
      let edge = touch.edge in
      let from_lies = lies_in passes touch.here edge.from edge.from_passes in
      let to_lies = lies_in passes touch.there edge.to edge.to_passes in
      let from_has : HasRegion passes touch.here edge.from (region_in size tables edge.from).region =
      subst (λ (chunk : Chunk). HasRegion passes chunk edge.from (region_in size tables edge.from).region) from_lies.in_chunk
      (has_region passes size tables are edge.from (inside edge.from from_lies.passable)) in
      let to_has : HasRegion passes touch.there edge.to (region_in size tables edge.to).region =
      subst (λ (chunk : Chunk). HasRegion passes chunk edge.to (region_in size tables edge.to).region) to_lies.in_chunk
      (has_region passes size tables are edge.to (inside edge.to to_lies.passable)) in
      record {
        from = edge.from;
        to = edge.to;
        beside = edge.beside;
        from_passes = from_lies.passable;
        to_passes = to_lies.passable;
        from_is = same_region (region_in size tables edge.from) a
            (ap (λ (chunk : Chunk). chunk_place size chunk) from_lies.in_chunk ∙ sym touch.from)
            (one_region passes touch.here edge.from (region_in size tables edge.from).region a.region from_has edge.from_region);
        to_is = same_region (region_in size tables edge.to) b
            (ap (λ (chunk : Chunk). chunk_place size chunk) to_lies.in_chunk ∙ sym touch.to)
            (one_region passes touch.there edge.to (region_in size tables edge.to).region b.region to_has edge.to_region);
      }

  -- passable cells of one region are joined
  same_joined : (a b : Cell) → IsTrue (passes a) → IsTrue (passes b) → region_in size tables a ≡ region_in size tables b → JoinedStraight passes a b
  same_joined a b here there same =
      JoinedStraight-from_region passes (chunk_of a) a b (joined_from_same passes size tables are a b (inside a here) (inside b there) here there same)

  -- two cells of a link, read in its direction
  over_link : (x y : RegionId) → Either (IsLink are.links) x y → HasTouch passes size tables x y ⊎ HasTouch passes size tables y x
  over_link x y near = elim near [
    | inl ahead ↦ inl (has_touch x y (are.links_are.each x y ahead))
    | inr behind ↦ inr (has_touch y x (are.links_are.each y x behind))
  ]

  chain_joined : (way : List RegionId) (id : RegionId) (a b : Cell) → IsTrue (passes a) → IsTrue (passes b) → region_in size tables a ≡ id
      → IsChain (IsLink are.links) id way (region_in size tables b) → JoinedStraight passes a b
  chain_joined [] id a b here there is chain = same_joined a b here there (is ∙ chain)
  chain_joined (next ∷ way) id a b here there is chain = elim (over_link id next chain.0) [
    | inl touch ↦
        JoinedStraight-trans passes a touch.from b (same_joined a touch.from here touch.from_passes (is ∙ sym touch.from_is))
        (JoinedStraight-beside passes touch.from touch.to b touch.beside touch.from_passes touch.to_passes
        (chain_joined way next touch.to b touch.to_passes there touch.to_is chain.1))
    | inr touch ↦
        JoinedStraight-trans passes a touch.to b (same_joined a touch.to here touch.to_passes (is ∙ sym touch.to_is))
        (JoinedStraight-beside passes touch.to touch.from b (IsBeside-back touch.from touch.to touch.beside) touch.to_passes touch.from_passes
        (chain_joined way next touch.from b touch.from_passes there touch.from_is chain.1))
  ]

  -- passable cells with joined regions are joined by a legal walk
  pub cells_joined : (a b : Cell) → IsTrue (passes a) → IsTrue (passes b)
      → AreJoined are.links (region_in size tables a) (region_in size tables b) → Joined passes a b
  cells_joined a b here there joined =
      Joined-from_straight passes a b (chain_joined joined.0 (region_in size tables a) a b here there refl joined.1)
