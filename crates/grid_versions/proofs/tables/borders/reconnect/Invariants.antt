use Rattle.std.proofs.Common.{ℕ, Bool, List, ◌≡◌, ◌-◌, IsTrue, length}
use Rattle.std.specs.Prelude.{All}
use Rattle.nav_types.specs.declared.cells.Cell.{Cell}
use Rattle.region_edges.specs.Edges.{AreEdges}
use Rattle.grid_versions.specs.Chunks.{chunk_count}
use Rattle.grid_versions.specs.inner.ChunkLists.{chunk_numbered, neighbour_on}
use Rattle.grid_versions.specs.inner.Changing.{AreChanges}
use Rattle.grid_versions.specs.inner.Keeping.{IsKeptPart}
use Rattle.grid_versions.specs.inner.Tables.{AreAllLabels, AreAllEdges}
use Rattle.grid_versions.proofs.RemakeLemmas.{AreRemade}
use Rattle.grid_versions.proofs.tables.borders.reconnect.Given as goal

abbrev pub invariant-places : goal.invariant-places
invariant-places l = record {
  each : length l.all ≡ chunk_count l.size;
  remade : (old now : Cell → Bool) → AreChanges old now l.size l.changed.class l.changed.bits.now
      → All (IsKeptPart old now l.size) l.made.kept.now → AreAllLabels now l.size l.made.labels.now
      → AreAllEdges l.side old l.size l.initial.all
      → AreRemade
      (λ (k : ℕ) (edges : List (ℕ × ℕ)). AreEdges now (chunk_numbered l.size k) (neighbour_on l.side (chunk_numbered l.size k)) edges)
      (λ (k : ℕ) (edges : List (ℕ × ℕ)). AreEdges old (chunk_numbered l.size k) (neighbour_on l.side (chunk_numbered l.size k)) edges)
      l.place l.all;
  stay : IsTrue l.stay → l.all ≡ l.initial.all;
}

abbrev pub decreases-places : goal.decreases-places
decreases-places l = l.count - l.place
