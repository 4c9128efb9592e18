use Rattle.std.proofs.Common.{Bool}
use Rattle.nav_types.specs.declared.cells.Cell.{Cell}
use Rattle.chunk_regions.specs.Labelling.{AreLabels}
use Rattle.region_edges.specs.Edges.{AreEdges, PassesInside}
use Rattle.grid_versions.specs.Chunks.{chunk_count}
use Rattle.grid_versions.specs.inner.ChunkLists.{neighbour_on, AreOfChunks}
use Rattle.grid_versions.proofs.tables.borders.all_edges.Given as goal

abbrev pub invariant-loop-place : goal.invariant-loop-place
invariant-loop-place l = (passes : Cell → Bool) → PassesInside passes l.size
    → AreOfChunks l.size (chunk_count l.size) (λ chunk one. AreLabels passes l.size chunk one) l.labels
    → AreOfChunks l.size l.place (λ chunk edges. AreEdges passes chunk (neighbour_on l.side chunk) edges) l.all
