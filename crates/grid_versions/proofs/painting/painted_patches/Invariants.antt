use Rattle.grid_versions.specs.inner.ChunkLists.{AreOfChunks}
use Rattle.grid_versions.specs.inner.Painting.{IsPaintedChunk}
use Rattle.grid_versions.proofs.painting.painted_patches.Given as goal

abbrev pub invariant-loop-place : goal.invariant-loop-place
invariant-loop-place l = AreOfChunks l.size l.place (IsPaintedChunk l.site.map.now l.site.shapes.now) l.all
