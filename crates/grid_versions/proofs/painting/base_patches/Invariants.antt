use Rattle.grid_versions.specs.inner.ChunkLists.{AreOfChunks}
use Rattle.grid_versions.specs.inner.Painting.{IsBaseChunk}
use Rattle.grid_versions.proofs.painting.base_patches.Given as goal

abbrev pub invariant-loop-place : goal.invariant-loop-place
invariant-loop-place l = AreOfChunks l.size l.place (IsBaseChunk l.map) l.all
