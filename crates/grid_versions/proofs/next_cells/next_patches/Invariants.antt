use Rattle.std.proofs.Common.{◌≡◌, length}
use Rattle.grid_versions.specs.Chunks.{chunk_count}
use Rattle.grid_versions.specs.inner.ChunkLists.{chunk_numbered}
use Rattle.grid_versions.specs.inner.Painting.{IsPaintedChunk}
use Rattle.grid_versions.proofs.DirtyLemmas.{AreMade}
use Rattle.grid_versions.proofs.VersionLemmas.{AreCompared}
use Rattle.grid_versions.proofs.next_cells.next_patches.Given as goal

-- the parts before `part-index` are done
abbrev pub invariant-loop-part : goal.invariant-loop-part
invariant-loop-part l = record {
  painted : AreMade (λ place cells. IsPaintedChunk l.source.site.now.map.now l.source.site.now.shapes.now
      (chunk_numbered l.source.site.now.map.now.size place) cells) l.parts l.part-index l.all;
  each : length l.all ≡ chunk_count l.source.site.now.map.now.size;
  long : length l.changed.items ≡ length l.all;
  compared : AreCompared l.before.cells.now l.all l.changed.items;
}
