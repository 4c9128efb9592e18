use Rattle.std.proofs.Common.{◌≡◌, ◌+◌, ◌*◌}
use Rattle.grid_versions.specs.Chunks.{chunk_count}
use Rattle.grid_versions.specs.Passing.{passable_at}
use Rattle.grid_versions.specs.inner.Tallying.{AreTablesOf}
use Rattle.grid_versions.proofs.class_tables.class_tables.Given as goal

-- the classes below `number` have their tables
abbrev pub invariant-loop-number : goal.invariant-loop-number
invariant-loop-number g l = record {
  tables : AreTablesOf l.number (passable_at l.site.map.now l.site.shapes.now) l.site.map.now.size l.all;
  ticks : l.ticks ≡ l.initial.ticks + l.number * chunk_count l.site.map.now.size;
}
