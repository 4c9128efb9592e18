use Rattle.std.proofs.Common.{◌≡◌, ◌+◌}
use Rattle.chunk_regions.specs.Labelling.{AreLabels}
use Rattle.class_planes.specs.Planes.{is_passable}
use Rattle.grid_versions.specs.inner.ChunkLists.{AreOfChunks}
use Rattle.grid_versions.proofs.tables.labelling.all_labels.Given as goal

abbrev pub invariant-loop-place : goal.invariant-loop-place
invariant-loop-place g l = record {
  labelled : AreOfChunks l.plane.size l.place
      (λ chunk one. AreLabels (is_passable l.plane) l.plane.size chunk one) l.all;
  ticked : l.ticks ≡ l.initial.ticks + l.place;
}
