use Rattle.std.proofs.Common.{ℕ, Bool, List, ◌≡◌, ◌+◌, ◌<◌, ◌≤◌, ◌∙◌, length, refl, ap, arith}
use Rattle.std.proofs.lemmas.Bool.{and_parts}
use Rattle.std.proofs.lemmas.List.{length-set}
use Rattle.std.proofs.lemmas.Option.{slice_get_within}
use Rattle.nav_types.specs.declared.cells.Cell.{Cell}
use Rattle.nav_types.specs.declared.cells.Chunk.{Chunk}
use Rattle.nav_types.specs.declared.cells.Size.{Size}
use Rattle.region_edges.specs.declared.neighbours.ChunkSide.{ChunkSide}
use Rattle.region_edges.specs.Edges.{AreEdges}
use Rattle.grid_versions.specs.Chunks.{chunk_count}
use Rattle.grid_versions.specs.inner.ChunkLists.{chunk_numbered, neighbour_on}
use Rattle.grid_versions.specs.inner.Changing.{AgreeInChunk}
use Rattle.grid_versions.proofs.ChangeLemmas.{edges_stay}
use Rattle.grid_versions.proofs.PassedLemmas.{remade_past}
use Rattle.grid_versions.proofs.RemakeLemmas.{AreRemade, remade_more, all_remade}
use Rattle.grid_versions.proofs.tables.borders.reconnect.Goals as goal

-- edges of chunks that agree with their neighbours are passed over
edges_past : (old now : Cell → Bool) (size : Size) (side : ChunkSide) (from to : ℕ) (all : List (List (ℕ × ℕ)))
    → length all ≡ chunk_count size
    → ((place : ℕ) → from ≤ place → place < to → place < chunk_count size
    → AgreeInChunk old now (chunk_numbered size place) × AgreeInChunk old now (neighbour_on side (chunk_numbered size place)))
    → from ≤ to
    → AreRemade (λ (k : ℕ) (edges : List (ℕ × ℕ)). AreEdges now (chunk_numbered size k) (neighbour_on side (chunk_numbered size k)) edges)
    (λ (k : ℕ) (edges : List (ℕ × ℕ)). AreEdges old (chunk_numbered size k) (neighbour_on side (chunk_numbered size k)) edges) from all
    → AreRemade (λ (k : ℕ) (edges : List (ℕ × ℕ)). AreEdges now (chunk_numbered size k) (neighbour_on side (chunk_numbered size k)) edges)
    (λ (k : ℕ) (edges : List (ℕ × ℕ)). AreEdges old (chunk_numbered size k) (neighbour_on side (chunk_numbered size k)) edges) to all
edges_past old now size side from to all long agree order so_far =
    remade_past (λ (k : ℕ) (edges : List (ℕ × ℕ)). AreEdges now (chunk_numbered size k) (neighbour_on side (chunk_numbered size k)) edges)
    (λ (k : ℕ) (edges : List (ℕ × ℕ)). AreEdges old (chunk_numbered size k) (neighbour_on side (chunk_numbered size k)) edges) from to all
    (λ k item low high at was.
    let both = agree k low high (omega (arith, slice_get_within all k item at, long)) in
    edges_stay old now (chunk_numbered size k) (neighbour_on side (chunk_numbered size k)) item both.0 both.1 was)
    order so_far

pub places-init : goal.places-init
places-init c = record {
  each = c.requires.each;
  remade = λ old now changes kept labels were.
      edges_past old now c.args.size c.args.side 0 c.next_touched-place.result c.args.all.now c.requires.each
      (λ place low high within. c.next_touched-place.ensures.none place low high within old now changes) (omega arith)
      (record { done = λ k item less at. absurd (omega arith); left = λ k item from at. were.are k item at });
  stay = λ stay. refl;
}

pub places-preserved : goal.places-preserved
places-preserved c =
    let size = c.args.size in
    let side = c.args.side in
    let place = c.places.place in
    let here = c.places.invariant in
    let all = c.places.all in
    let after = c.reconnect_at.new.all in
    let made = c.in_ok-stays.ensures.edges in
    let each = here.each in
    let some = c.places-test.true in
    let next = c.next_touched-place-in-places.result in
    let within : place < length all = omega (arith, each, some, c.count-count.ensures.value) in
    let long : length after ≡ chunk_count size = ap (λ (xs : List (List (ℕ × ℕ))). length xs) made.set ∙ length-set all place made.item ∙ each in
    record {
      each = long;
      remade = λ old now changes kept labels were.
          let so_far = here.remade old now changes kept labels were in
          edges_past old now size side (place + 1) next after long
          (λ at low high inside. c.next_touched-place-in-places.ensures.none at low high inside old now changes) c.next_touched-place-in-places.ensures.from
          (remade_more
          (λ (k : ℕ) (edges : List (ℕ × ℕ)). AreEdges now (chunk_numbered size k) (neighbour_on side (chunk_numbered size k)) edges)
          (λ (k : ℕ) (edges : List (ℕ × ℕ)). AreEdges old (chunk_numbered size k) (neighbour_on side (chunk_numbered size k)) edges)
          place all after within so_far
          (record {
            item = made.item;
            set = made.set;
            is = made.is old now changes kept labels (λ was at. so_far.left place was (omega arith) at);
          }));
      stay = λ both.
          let parts = and_parts c.places.stay c.in_ok-stays.stays both in
          c.in_ok-stays.ensures.stays parts.1 ∙ here.stay parts.0;
    }

pub returns-clause-edges : goal.returns-clause-edges
returns-clause-edges c = λ old now changes kept labels were.
    let size = c.args.size in
    let side = c.args.side in
    let here = c.places.invariant in
    let none = c.places-test.false in
    all_remade size (chunk_count size) c.places.place
    (λ (chunk : Chunk) (edges : List (ℕ × ℕ)). AreEdges now chunk (neighbour_on side chunk) edges)
    (λ (k : ℕ) (edges : List (ℕ × ℕ)). AreEdges old (chunk_numbered size k) (neighbour_on side (chunk_numbered size k)) edges)
    c.places.all here.each (omega (arith, none, c.count-count.ensures.value)) (here.remade old now changes kept labels were)

pub returns-clause-stay : goal.returns-clause-stay
returns-clause-stay c = c.places.invariant.stay
