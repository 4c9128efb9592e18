use Rattle.std.proofs.Common.{ℕ, Bool, ◌≡◌, ◌+◌, ◌-◌, ◌≤◌, IsTrue, length, take}
use Rattle.std.specs.List.{count_by}
use Rattle.nav_types.specs.declared.cells.Cell.{Cell}
use Rattle.lane_rows.specs.Rows.{has_class}
use Rattle.chunk_regions.specs.Labelling.{Labelling, AreLabels}
use Rattle.class_planes.specs.Planes.{is_passable}
use Rattle.grid_versions.specs.Chunks.{chunk_count}
use Rattle.grid_versions.specs.inner.ChunkLists.{chunk_numbered}
use Rattle.grid_versions.specs.inner.Changing.{AreChanges}
use Rattle.grid_versions.specs.inner.Tables.{AreAllLabels, label_counts}
use Rattle.grid_versions.proofs.RemakeLemmas.{AreRemade}
use Rattle.grid_versions.proofs.tables.labelling.relabel.Given as goal

abbrev pub invariant-places : goal.invariant-places
invariant-places g l = record {
  each : length l.labels ≡ chunk_count l.plane.size;
  remade : (old : Cell → Bool) → AreAllLabels old l.plane.size l.initial.labels
      → AreChanges old (is_passable l.plane) l.plane.size l.changed.class l.changed.bits.now
      → AreRemade
      (λ (k : ℕ) (one : Labelling).
      AreLabels (is_passable l.plane) l.plane.size (chunk_numbered l.plane.size k) one)
      (λ (k : ℕ) (one : Labelling). AreLabels old l.plane.size (chunk_numbered l.plane.size k) one)
      l.place l.labels;
  counts : IsTrue l.stay → label_counts l.labels ≡ label_counts l.initial.labels;
  ticked : l.ticks ≤ l.initial.ticks + count_by (has_class l.changed.class) (take l.place l.changed.bits.now);
}

abbrev pub decreases-places : goal.decreases-places
decreases-places g l = l.count - l.place
