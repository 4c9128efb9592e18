use Rattle.std.proofs.Common.{◌≡◌, take}
use Rattle.nav_types.specs.declared.cells.Chunk.{Chunk}
use Rattle.chunk_regions.specs.inner.Joining.{AreGrown, IsNewest, KeepsJoining, KeepsShared}
use Rattle.chunk_regions.proofs.label_spans.join_rest.Given as goal

abbrev pub invariant-loop-south : goal.invariant-loop-south
invariant-loop-south l = record {
  regions : l.all.regions.items ≡ l.initial.all.regions.items;
  firsts : l.all.firsts.items ≡ l.initial.all.firsts.items;
  grown : AreGrown (take l.fn.place.at l.initial.all.regions.items) l.initial.all.firsts.items l.all.links.items;
  kept : KeepsShared l.initial.all.links.items l.all.links.items;
  newest : IsNewest l.rows (take l.fn.place.at l.initial.all.regions.items) l.all.links.items l.fn.place l.region l.south;
  groups : (chunk : Chunk) → KeepsJoining chunk l.rows (take l.fn.place.at l.initial.all.regions.items) l.initial.all.firsts.items
      l.fn.place l.initial.all.links.items l.initial.region l.all.links.items l.region;
}
