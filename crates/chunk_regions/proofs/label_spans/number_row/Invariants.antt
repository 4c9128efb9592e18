use Rattle.std.proofs.Common.{◌≡◌, ◌≤◌, ◌-◌, length, take}
use Rattle.std.specs.Prelude.{slice_index}
use Rattle.chunk_regions.specs.declared.label_spans.Place.{Place}
use Rattle.chunk_regions.specs.inner.Joining.{Overlap, AreUnited, AreGrown, KeepsGroups}
use Rattle.chunk_regions.proofs.label_spans.number_row.Given as goal

abbrev pub invariant-loop-at : goal.invariant-loop-at
invariant-loop-at l = record {
  room : length l.all.regions.items ≡ length l.initial.all.regions.items;
  grown : AreGrown (take l.at l.all.regions.items) l.all.firsts.items l.all.links.items;
  united : AreUnited l.rows (take l.at l.all.regions.items) l.all.links.items l.at;
  from : slice_index l.rows.starts (l.row - 1) ≤ l.reached;
  to : l.reached ≤ l.start;
  passed : (s n : Place) → Overlap l.rows s n → n.row ≡ l.row → l.at ≤ n.at → l.reached ≤ s.at;
  groups : KeepsGroups l.chunk l.rows (take l.start l.initial.all.regions.items) l.initial.all.firsts.items l.initial.all.links.items
      (take l.at l.all.regions.items) l.all.firsts.items l.all.links.items;
}
