use Rattle.std.proofs.Common.{List, inl, inr, sym, subst}
use Rattle.nav_types.specs.Numbering.{Numbering}
use Rattle.grid_versions.specs.inner.Painting.{AreBaseChunks}
use Rattle.grid_versions.proofs.ReacherLemmas.{only_adds, only_removes}
use Rattle.grid_versions.proofs.cell_layer.CellLayer.updated.Goals as goal

pub next_reachers-requires-clause-before : goal.next_reachers-requires-clause-before
next_reachers-requires-clause-before c =
    record { earlier = c.args.earlier.now; lists = c.requires.reachers; named = c.requires.names }

pub next_patches-requires-clause-before : goal.next_patches-requires-clause-before
next_patches-requires-clause-before c = record {
  earlier = c.args.earlier.now;
  painted = c.requires.cells;
  covered = c.requires.covers;
  named = λ id. elim (c.requires.names.each id) [
    | inl same ↦ inl same
    | inr was ↦ inr was.0
  ];
  only_adds = λ free. only_adds c.args.site.now.map.now c.args.earlier.now c.args.site.now.shapes.now c.args.changes.now.dirty.now.rects
      c.args.changes.now.ids.now c.requires.names (c.are_free-adds.ensures free);
  only_removes = λ free. only_removes c.args.site.now.map.now c.args.earlier.now c.args.site.now.shapes.now
      c.args.changes.now.dirty.now.rects c.args.changes.now.ids.now c.requires.names (c.are_free-removes.ensures free);
}

pub returns-clause-base : goal.returns-clause-base
returns-clause-base c =
    subst (λ (all : List Numbering). AreBaseChunks c.args.site.now.map.now all) (sym c.in_ok-base.ensures) c.requires.base
