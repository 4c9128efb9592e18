use Rattle.std.proofs.Common.{ℕ, ◌<◌}
use Rattle.nav_types.specs.declared.cells.Cell.{Cell}
use Rattle.nav_types.specs.declared.cells.Chunk.{Chunk}
use Rattle.nav_types.specs.Regions.{IsRegionFirst, IsNextChunk, IsEdge, IsAreaFirst}
use Rattle.nav_types.proofs.Counting.{Counts-unique}
use Rattle.grid_versions.proofs.laws.one_tally.Goals as goal

pub returns : goal.returns
returns c = λ classes passes r e a s f b one two. (
  Counts-unique (λ (x : ℕ × Cell). (x.0 < classes) × IsRegionFirst (passes x.0) x.1) r s one.region_count two.region_count,
  Counts-unique (λ (x : ℕ × Chunk × Chunk × ℕ × ℕ). (x.0 < classes) × (IsNextChunk x.1 x.2 × IsEdge (passes x.0) x.1 x.2 x.3 x.4)) e f one.edge_count two.edge_count,
  Counts-unique (λ (x : ℕ × Cell). (x.0 < classes) × IsAreaFirst (passes x.0) x.1) a b one.area_count two.area_count,
)
