use Rattle.std.proofs.Common.{Bool, ◌≡◌, ◌-◌, length, take}
use Rattle.std.specs.Prelude.{slice_index}
use Rattle.nav_types.specs.declared.cells.Cell.{Cell}
use Rattle.chunk_regions.specs.inner.Spans.{IsCut}
use Rattle.chunk_regions.specs.inner.Joining.{AreUnited, AreGrown, AreGroups}
use Rattle.chunk_regions.proofs.label_spans.number_all.Given as goal

abbrev pub invariant-loop-row : goal.invariant-loop-row
invariant-loop-row l = record {
  south : l.south ≡ slice_index l.rows.starts (l.row - 1);
  start : l.start ≡ slice_index l.rows.starts l.row;
  room : length l.all.regions.items ≡ length l.rows.spans;
  grown : AreGrown (take l.start l.all.regions.items) l.all.firsts.items l.all.links.items;
  united : AreUnited l.rows (take l.start l.all.regions.items) l.all.links.items l.start;
  groups : (passes : Cell → Bool) → IsCut passes l.chunk l.rows
      → AreGroups passes l.chunk l.rows (take l.start l.all.regions.items) l.all.firsts.items l.all.links.items;
}
