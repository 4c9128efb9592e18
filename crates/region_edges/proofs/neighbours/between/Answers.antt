use Rattle.std.proofs.Common.{ℕ, ◌≡◌, ◌↔◌, List, subst, sym}
use Rattle.std.specs.List.{Contains}
use Rattle.region_edges.specs.Edges.{AreEdges}
use Rattle.region_edges.specs.inner.Borders.{border_length, Meets}
use Rattle.region_edges.proofs.EdgeLemmas.{AreEdges-from_meetings}
use Rattle.region_edges.proofs.neighbours.between.Goals as goal

pub returns : goal.returns
returns c =
    let side = c.args.side in
    let here = c.args.here.now in
    let there = c.args.there.now in
    let pairs = c.put_in_order.new.pairs.items in
    let meet : (pair : ℕ × ℕ) → Contains pairs pair ↔ Meets side here there (border_length side here.cells.rect) pair = λ pair. (
      λ within. (c.in_ok-pairs.ensures pair).0 ((c.put_in_order.ensures.same pair).0 within),
      λ meets. (c.put_in_order.ensures.same pair).1 ((c.in_ok-pairs.ensures pair).1 meets),
    ) in
    let kept : c.from.result ≡ pairs = c.from.ensures in
    record {
      edges = λ passes size inside own other.
          subst (λ (edges : List (ℕ × ℕ)). AreEdges passes here.chunk there.chunk edges) (sym kept)
          (AreEdges-from_meetings c.one_region.ensures side here there c.requires.neighbours pairs meet c.put_in_order.ensures.rising
          passes size inside own other);
    }
