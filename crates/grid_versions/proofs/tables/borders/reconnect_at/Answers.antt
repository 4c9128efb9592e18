use Rattle.std.proofs.Common.{ℕ, Bool, List, ◌≡◌, ◌∙◌, Some, sym, subst, arith}
use Rattle.std.specs.Prelude.{All, slice_get}
use Rattle.std.proofs.lemmas.Slice.Eq.{slice_eq-Decides}
use Rattle.nav_types.specs.declared.cells.Cell.{Cell}
use Rattle.region_edges.specs.Edges.{AreEdges}
use Rattle.grid_versions.specs.inner.ChunkLists.{chunk_numbered, neighbour_on}
use Rattle.grid_versions.specs.inner.Changing.{AreChanges}
use Rattle.grid_versions.specs.inner.Keeping.{IsKeptPart}
use Rattle.grid_versions.specs.inner.Tables.{AreAllLabels}
use Rattle.grid_versions.proofs.BuildLemmas.{lies_beyond}
use Rattle.grid_versions.proofs.KeptLemmas.{edges_kept}
use Rattle.grid_versions.proofs.RemakeLemmas.{kept_item, kept_at, pair_eq-Decides}
use Rattle.grid_versions.proofs.tables.borders.reconnect_at.Goals as goal

pub returns-then-keeps_edges-clause-edges : goal.returns-then-keeps_edges-clause-edges
returns-then-keeps_edges-clause-edges c =
    let size = c.args.size in
    let place = c.args.border.place in
    let side = c.args.border.side in
    let here = chunk_numbered size place in
    let there = neighbour_on side here in
    kept_at place
    (λ (edges : List (ℕ × ℕ)). (old now : Cell → Bool) → AreChanges old now size c.args.changed.now.class c.args.changed.now.bits.now
    → All (IsKeptPart old now size) c.args.made.now.kept.now → AreAllLabels now size c.args.made.now.labels.now
    → ((was : List (ℕ × ℕ)) → slice_get c.args.all.now place ≡ Some was → AreEdges old here there was) → AreEdges now here there edges)
    c.args.all.now (omega (arith, c.requires.each, c.requires.within))
    (λ was at old now changes kept labels were.
    let same = c.keeps_edges.ensures c.if-keeps_edges.true old now changes kept in
    edges_kept old now side here there was (lies_beyond side here) same.0 same.1 (were was at))

pub returns-then-eq-clause-edges : goal.returns-then-eq-clause-edges
returns-then-eq-clause-edges c =
    let size = c.args.size in
    let place = c.args.border.place in
    let here = chunk_numbered size place in
    let there = neighbour_on c.args.border.side here in
    let edges = c.in_ok-edges.edges in
    let equal = (slice_eq-Decides pair_eq-Decides _ _ _ c.eq.ensures).0 c.if-eq.true in
    let same : edges ≡ c.at.result.now = sym (sym c.as_slice.ensures ∙ equal ∙ c.as_slice-2.ensures) in
    kept_item place
    (λ (edges : List (ℕ × ℕ)). (old now : Cell → Bool) → AreChanges old now size c.args.changed.now.class c.args.changed.now.bits.now
    → All (IsKeptPart old now size) c.args.made.now.kept.now → AreAllLabels now size c.args.made.now.labels.now
    → ((was : List (ℕ × ℕ)) → slice_get c.args.all.now place ≡ Some was → AreEdges old here there was) → AreEdges now here there edges)
    c.args.all.now c.at.result.now c.at.ensures
    (λ old now changes kept labels were.
    subst (λ (xs : List (ℕ × ℕ)). AreEdges now here there xs) same (c.in_ok-edges.ensures now changes.now_inside labels))

pub returns-clause-edges : goal.returns-clause-edges
returns-clause-edges c = record {
  item = c.in_ok-edges.edges;
  set = c.in_ok-set.ensures.ok;
  is = λ old now changes kept labels were. c.in_ok-edges.ensures now changes.now_inside labels;
}
