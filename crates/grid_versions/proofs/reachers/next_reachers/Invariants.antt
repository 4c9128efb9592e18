use Rattle.std.proofs.Common.{◌≡◌, length}
use Rattle.grid_versions.specs.Chunks.{chunk_count}
use Rattle.grid_versions.specs.inner.ChunkLists.{chunk_numbered}
use Rattle.grid_versions.specs.inner.Reachers.{HoldChunkReachers}
use Rattle.grid_versions.proofs.DirtyLemmas.{AreMade}
use Rattle.grid_versions.proofs.reachers.next_reachers.Given as goal

-- the parts before `part-index` are done
abbrev pub invariant-loop-part : goal.invariant-loop-part
invariant-loop-part l = record {
  each : length l.all ≡ chunk_count l.site.map.now.size;
  made : AreMade (λ place ids. HoldChunkReachers l.site.map.now l.site.shapes.now (chunk_numbered l.site.map.now.size place) ids)
      l.parts l.part-index l.all;
}
