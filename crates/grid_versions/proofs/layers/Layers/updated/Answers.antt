use Rattle.std.proofs.Common.{ℕ, List, ◌≡◌, ◌≢◌, ◌∙◌, ◌+◌, ◌<◌, ◌≤◌, Bool, length, refl, ap, sym, subst}
use Rattle.std.specs.Prelude.{Option}
use Rattle.std.specs.List.{count_by, sum_by, range_with_len}
use Rattle.nav_types.specs.declared.cells.Cell.{Cell}
use Rattle.nav_types.specs.declared.cells.Chunk.{Chunk}
use Rattle.nav_types.specs.Cells.{chunk_of}
use Rattle.nav_types.specs.Numbering.{Numbering}
use Rattle.nav_types.specs.Regions.{HasRelabelled}
use Rattle.nav_types.proofs.Counting.{Counts-unique}
use Rattle.lane_rows.specs.Rows.{has_class}
use Rattle.class_planes.specs.Planes.{PlaneCells, ArePlanes}
use Rattle.obstruction_store.specs.Standing.{Standing}
use Rattle.posts.specs.Maps.{Map}
use Rattle.grid_versions.specs.Passing.{passable_at}
use Rattle.grid_versions.specs.inner.Painting.{ArePaintedChunks, AreDiffering}
use Rattle.grid_versions.specs.inner.Changing.{AreChanges, CoverPassable}
use Rattle.grid_versions.specs.inner.Reaching.{Reached, CoverChanges}
use Rattle.grid_versions.specs.inner.Tables.{Tables}
use Rattle.grid_versions.specs.inner.Tallying.{AreTablesOf}
use Rattle.grid_versions.proofs.PlanePartLemmas.{covers_passable}
use Rattle.grid_versions.proofs.VersionLemmas.{changes_of, relabelled_counted}
use Rattle.grid_versions.proofs.layers.Layers.updated.Goals as goal

-- a map under the obstructions before and now, the numbers of its chunks before and now, and the bits that differ
module _ (map : Map) (old new : Standing) (before now : List Numbering) (items bits : List ℕ)
    (were : ArePaintedChunks map old before) (are : ArePaintedChunks map new now) (listed : AreDiffering before now items)
    (same : bits ≡ items) where
  differing : AreDiffering before now bits
  differing = subst (λ (xs : List ℕ). AreDiffering before now xs) (sym same) listed

  changes_here : (k : ℕ) → k < length map.classes → AreChanges (passable_at map old k) (passable_at map new k) map.size k bits
  changes_here k known = changes_of map old new before now were are bits k differing known

  tables_here : (tables : List Tables) (planes : List (Option PlaneCells)) (reached : Reached) → AreTablesOf (length map.classes) (passable_at map old) map.size tables
      → ArePlanes map.size (passable_at map old) 65535 (length map.classes) planes
      → CoverChanges map old new reached.rects → reached.size ≡ map.size
      → (was : ℕ → Cell → Bool) × (AreTablesOf (length map.classes) was map.size tables
      × (((k : ℕ) → k < length map.classes → AreChanges (was k) (passable_at map new k) map.size k bits)
      × (ArePlanes map.size was 65535 (length map.classes) planes
      × ((k : ℕ) → k < length map.classes → CoverPassable (was k) (passable_at map new k) map.size reached))))
  tables_here tables planes reached of drawn covers sized = (
    passable_at map old,
    (of, (changes_here, (drawn, λ k known. covers_passable map old new bits reached covers sized k known (changes_here k known)))),
  )

  counted_here : (classes : ℕ) → classes ≡ length map.classes
      → HasRelabelled (length map.classes) (passable_at map old) (passable_at map new)
      (sum_by (λ k. count_by (has_class k) bits) (range_with_len 0 classes))
  counted_here classes many = relabelled_counted map old new before now were are bits classes differing many

  most_here : (start end : ℕ)
      → end ≤ start + sum_by (λ k. count_by (has_class k) bits) (range_with_len 0 (length map.classes))
      → (count : ℕ) → HasRelabelled (length map.classes) (passable_at map old) (passable_at map new) count → end ≤ start + count
  most_here start end most count has =
      let total = sum_by (λ k. count_by (has_class k) bits) (range_with_len 0 (length map.classes)) in
      let one : total ≡ count =
      Counts-unique (λ (p : ℕ × Chunk). (p.0 < length map.classes) × ((cell : Cell) × ((chunk_of cell ≡ p.1) × (passable_at map old p.0 cell ≢ passable_at map new p.0 cell))))
      total count (counted_here (length map.classes) refl) has in
      subst (λ (n : ℕ). end ≤ start + n) one most

pub next_planes-requires-clause-each : goal.next_planes-requires-clause-each
next_planes-requires-clause-each g c =
    ap length c.as_slice-bits.ensures.value ∙ c.in_ok-cell_layer.ensures.bits.each ∙ c.in_ok-cell_layer.ensures.cells.each

pub next_planes-requires-clause-before : goal.next_planes-requires-clause-before
next_planes-requires-clause-before g c = record {
  earlier = c.args.earlier.now;
  planes_are = c.requires.parts.planes_are;
  painted = c.requires.parts.cells_are;
  covered = c.requires.covers;
  changes = changes_here c.args.site.now.map.now c.args.earlier.now c.args.site.now.shapes.now c.args.self.now.cell_layer.cells c.in_ok-cell_layer.cell_layer.cells
      c.in_ok-cell_layer.changed.items c.as_slice-bits.result.now c.requires.parts.cells_are c.in_ok-cell_layer.ensures.cells
      c.in_ok-cell_layer.ensures.bits c.as_slice-bits.ensures.value;
}

pub next_tables-requires-clause-before : goal.next_tables-requires-clause-before
next_tables-requires-clause-before g c =
    tables_here c.args.site.now.map.now c.args.earlier.now c.args.site.now.shapes.now c.args.self.now.cell_layer.cells c.in_ok-cell_layer.cell_layer.cells
    c.in_ok-cell_layer.changed.items c.in_ok-marks.marks c.requires.parts.cells_are c.in_ok-cell_layer.ensures.cells
    c.in_ok-cell_layer.ensures.bits (c.in_ok-marks.ensures ∙ c.as_slice-bits.ensures.value) c.args.self.now.tables c.args.self.now.planes c.args.changes.now.dirty.now c.requires.parts.tables_are
    c.requires.parts.planes_are c.requires.covers c.requires.sized

pub returns-in_err-tables-clause-most : goal.returns-in_err-tables-clause-most
returns-in_err-tables-clause-most g c =
    most_here c.args.site.now.map.now c.args.earlier.now c.args.site.now.shapes.now c.args.self.now.cell_layer.cells c.in_ok-cell_layer.cell_layer.cells
    c.in_ok-cell_layer.changed.items c.in_ok-marks.marks c.requires.parts.cells_are c.in_ok-cell_layer.ensures.cells
    c.in_ok-cell_layer.ensures.bits (c.in_ok-marks.ensures ∙ c.as_slice-bits.ensures.value) c.args.ticks.now c.next_tables.new.ticks c.next_tables.ensures.most

pub returns-clause-most : goal.returns-clause-most
returns-clause-most g c =
    most_here c.args.site.now.map.now c.args.earlier.now c.args.site.now.shapes.now c.args.self.now.cell_layer.cells c.in_ok-cell_layer.cell_layer.cells
    c.in_ok-cell_layer.changed.items c.in_ok-marks.marks c.requires.parts.cells_are c.in_ok-cell_layer.ensures.cells
    c.in_ok-cell_layer.ensures.bits (c.in_ok-marks.ensures ∙ c.as_slice-bits.ensures.value) c.args.ticks.now c.next_tables.new.ticks c.next_tables.ensures.most

pub returns-clause-relabelled : goal.returns-clause-relabelled
returns-clause-relabelled g c =
    subst (λ (n : ℕ). HasRelabelled (length c.args.site.now.map.now.classes) (passable_at c.args.site.now.map.now c.args.earlier.now)
    (passable_at c.args.site.now.map.now c.args.site.now.shapes.now) n) (sym c.marks_below-relabelled.ensures)
    (counted_here c.args.site.now.map.now c.args.earlier.now c.args.site.now.shapes.now c.args.self.now.cell_layer.cells c.in_ok-cell_layer.cell_layer.cells
    c.in_ok-cell_layer.changed.items c.as_slice-bits.result.now c.requires.parts.cells_are c.in_ok-cell_layer.ensures.cells
    c.in_ok-cell_layer.ensures.bits c.as_slice-bits.ensures.value c.count.result (c.count.ensures.count ∙ ap length c.classes.ensures))

pub returns-clause-parts : goal.returns-clause-parts
returns-clause-parts g c =
    let cell_layer = c.in_ok-cell_layer.ensures in
    let tables = c.in_ok-tables.ensures.tables in
    record {
      fit = c.requires.fit;
      base_are = cell_layer.base;
      reachers_are = cell_layer.reachers;
      cells_are = cell_layer.cells;
      planes_are = c.in_ok-planes.ensures;
      tables_are = tables;
      few = subst (λ (n : ℕ). n ≤ 16) (c.requires.parts.tables_are.each ∙ sym tables.each) c.requires.parts.few;
    }
