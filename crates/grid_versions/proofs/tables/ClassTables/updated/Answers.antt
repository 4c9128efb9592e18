use Rattle.std.proofs.Common.{ℕ, List, ◌≡◌, Bool, length, refl, sym, ap, ◌∙◌, subst}
use Rattle.std.specs.Prelude.{All}
use Rattle.std.specs.Arc.{arc_value}
use Rattle.std.proofs.lemmas.List.{length-map}
use Rattle.std.proofs.lemmas.List.Elements.{All-same}
use Rattle.std.proofs.lemmas.Result.{IfOk-weaker}
use Rattle.nav_types.specs.declared.cells.Cell.{Cell}
use Rattle.nav_types.specs.declared.cells.Size.{Size}
use Rattle.lane_rows.specs.Rows.{has_class}
use Rattle.chunk_regions.specs.Labelling.{Labelling}
use Rattle.region_edges.specs.declared.neighbours.ChunkSide.TheVariants.{East, North}
use Rattle.class_planes.specs.Planes.{is_passable}
use Rattle.grid_versions.specs.Chunks.{chunk_count}
use Rattle.grid_versions.specs.inner.Tables.{Tables, AreTables, AreAllLabels, AreAllEdges, label_counts, region_counts}
use Rattle.grid_versions.specs.inner.Building.{AreSides, IsLaidOut}
use Rattle.grid_versions.specs.declared.dirty_parts.DirtyPart.{DirtyPart}
use Rattle.grid_versions.specs.inner.Keeping.{IsKeptPart}
use Rattle.grid_versions.specs.inner.Changing.{AreChanges}
use Rattle.grid_versions.proofs.BuildLemmas.{laid_out}
use Rattle.grid_versions.proofs.ChangeLemmas.{areas_stay}
use Rattle.grid_versions.proofs.tables.ClassTables.updated.Goals as goal

-- a map before and now, whose size was read, and the tables of before
module _ (old now : Cell → Bool) (size extent : Size) (class : ℕ) (bits : List ℕ) (before : Tables) (same : size ≡ extent)
    (were : AreTables old extent before) (changed : AreChanges old now extent class bits) where
  laid_here : (labels : List Labelling) → AreAllLabels now extent labels → IsLaidOut size labels
  laid_here labels are = laid_out now size labels (subst (λ (s : Size). AreAllLabels now s labels) (sym same) are)

  -- the labels and edges after the change
  module _ (labels : List Labelling) (east north : List (List (ℕ × ℕ))) (labelled : AreAllLabels now extent labels)
      (parts items : List DirtyPart) (listed : parts ≡ items) (items_kept : All (IsKeptPart old now extent) items)
      (to_east : (old now : Cell → Bool) → AreChanges old now size class bits → All (IsKeptPart old now size) parts → AreAllLabels now size labels → AreAllEdges East old size before.east → AreAllEdges East now size east)
      (to_north : (old now : Cell → Bool) → AreChanges old now size class bits → All (IsKeptPart old now size) parts → AreAllLabels now size labels → AreAllEdges North old size before.north → AreAllEdges North now size north) where
    changes_here : AreChanges old now size class bits
    changes_here = subst (λ (s : Size). AreChanges old now s class bits) (sym same) changed

    parts_here : All (IsKeptPart old now size) parts
    parts_here = subst (λ (s : Size). All (IsKeptPart old now s) parts) (sym same)
        (All-same (IsKeptPart old now extent) parts items listed items_kept)

    tables_here : AreTables old size before
    tables_here = subst (λ (s : Size). AreTables old s before) (sym same) were

    sides_here : AreSides now size labels east north
    sides_here =
        let here = subst (λ (s : Size). AreAllLabels now s labels) (sym same) labelled in
        record {
          inside = changes_here.now_inside;
          labels_are = here;
          east_are = to_east old now changes_here parts_here here tables_here.east_are;
          north_are = to_north old now changes_here parts_here here tables_here.north_are;
        }

    -- where nothing joins otherwise, the areas are those of before
    kept_here : label_counts labels ≡ region_counts before → east ≡ before.east → north ≡ before.north
        → AreTables now extent (record { labels = labels; east = east; north = north; areas = before.areas })
    kept_here counts east_stays north_stays =
        let after : Tables = record { labels = labels; east = east; north = north; areas = before.areas } in
        subst (λ (s : Size). AreTables now s after) same
        (areas_stay old now size before after changes_here.before_inside tables_here sides_here counts east_stays north_stays refl)

pub next_edges-requires-clause-labels : goal.next_edges-requires-clause-labels
next_edges-requires-clause-labels g c =
    let passes = is_passable c.args.plane.now in
    let extent = c.args.plane.now.size in
    let own = c.self.inside in
    let before : Tables = record { labels = own.labels; east = own.east; north = own.north; areas = arc_value own.areas } in
    let old = is_passable c.args.changed.now.before.now in
    let changed = c.requires.before.1 in
    let were = subst (λ (t : Tables). AreTables old extent t) (sym c.self.view_is) c.requires.before.0 in
    laid_here old passes c.size-size.result extent c.args.changed.now.class c.args.changed.now.bits.now before c.size-size.ensures were changed c.in_ok-labels.labels c.in_ok-labels.ensures.labels

pub next_edges-requires-clause-each : goal.next_edges-requires-clause-each
next_edges-requires-clause-each g c =
    ap (λ (t : Tables). length t.east) c.self.view_is
    ∙ c.requires.before.0.east_are.each
    ∙ ap (λ (s : Size). chunk_count s) (sym c.size-size.ensures)

pub next_edges-requires-clause-changed : goal.next_edges-requires-clause-changed
next_edges-requires-clause-changed g c =
    sym (length-map c.args.changed.now.bits.now (has_class c.args.changed.now.class))
    ∙ c.requires.before.1.marks.each
    ∙ ap (λ (s : Size). chunk_count s) (sym c.size-size.ensures)

pub next_edges-requires-2-clause-each : goal.next_edges-requires-2-clause-each
next_edges-requires-2-clause-each g c =
    ap (λ (t : Tables). length t.north) c.self.view_is
    ∙ c.requires.before.0.north_are.each
    ∙ ap (λ (s : Size). chunk_count s) (sym c.size-size.ensures)

pub next_edges-requires-2-clause-changed : goal.next_edges-requires-2-clause-changed
next_edges-requires-2-clause-changed g c =
    sym (length-map c.args.changed.now.bits.now (has_class c.args.changed.now.class))
    ∙ c.requires.before.1.marks.each
    ∙ ap (λ (s : Size). chunk_count s) (sym c.size-size.ensures)

pub relabelled-requires-clause-counts : goal.relabelled-requires-clause-counts
relabelled-requires-clause-counts g c =
    c.in_ok-labels.ensures.counts c.if-counts.true ∙ ap (λ (t : Tables). region_counts t) c.self.view_is

pub relabelled-requires-clause-east : goal.relabelled-requires-clause-east
relabelled-requires-clause-east g c =
    c.in_ok-east.ensures.stay c.if-to_east.true ∙ ap (λ (t : Tables). t.east) c.self.view_is

pub relabelled-requires-clause-north : goal.relabelled-requires-clause-north
relabelled-requires-clause-north g c =
    c.in_ok-north.ensures.stay c.if-to_north.true ∙ ap (λ (t : Tables). t.north) c.self.view_is

pub next_edges-requires-2-clause-labels : goal.next_edges-requires-2-clause-labels
next_edges-requires-2-clause-labels g c =
    let passes = is_passable c.args.plane.now in
    let extent = c.args.plane.now.size in
    let own = c.self.inside in
    let before : Tables = record { labels = own.labels; east = own.east; north = own.north; areas = arc_value own.areas } in
    let old = is_passable c.args.changed.now.before.now in
    let changed = c.requires.before.1 in
    let were = subst (λ (t : Tables). AreTables old extent t) (sym c.self.view_is) c.requires.before.0 in
    laid_here old passes c.size-size.result extent c.args.changed.now.class c.args.changed.now.bits.now before c.size-size.ensures were changed c.in_ok-labels.labels c.in_ok-labels.ensures.labels

pub returns-then-to_north-clause-tables : goal.returns-then-to_north-clause-tables
returns-then-to_north-clause-tables g c =
    let passes = is_passable c.args.plane.now in
    let extent = c.args.plane.now.size in
    let own = c.self.inside in
    let before : Tables = record { labels = own.labels; east = own.east; north = own.north; areas = arc_value own.areas } in
    let old = is_passable c.args.changed.now.before.now in
    let changed = c.requires.before.1 in
    let were = subst (λ (t : Tables). AreTables old extent t) (sym c.self.view_is) c.requires.before.0 in
    let kept = kept_here old passes c.size-size.result extent c.args.changed.now.class c.args.changed.now.bits.now before c.size-size.ensures were changed c.in_ok-labels.labels c.in_ok-east.east c.in_ok-north.north c.in_ok-labels.ensures.labels c.as_slice.result.now c.in_ok-kept.kept.items c.as_slice.ensures.value c.in_ok-kept.ensures c.in_ok-east.ensures.edges c.in_ok-north.ensures.edges
    (c.in_ok-labels.ensures.counts c.if-counts.true) (c.in_ok-east.ensures.stay c.if-to_east.true) (c.in_ok-north.ensures.stay c.if-to_north.true) in
    let here : AreTables passes extent (record { labels = c.in_ok-labels.labels; east = c.in_ok-east.east; north = c.in_ok-north.north; areas = c.args.self.now.areas }) =
    subst (λ (t : Tables). AreTables passes extent (record { labels = c.in_ok-labels.labels; east = c.in_ok-east.east; north = c.in_ok-north.north; areas = t.areas }))
    c.self.view_is kept in
    IfOk-weaker c.relabelled.result _ _ (λ tables is. subst (λ (t : Tables). AreTables passes extent t) (sym is) here) c.relabelled.ensures

pub joined-requires : goal.joined-requires
joined-requires g c =
    let passes = is_passable c.args.plane.now in
    let extent = c.args.plane.now.size in
    let own = c.self.inside in
    let before : Tables = record { labels = own.labels; east = own.east; north = own.north; areas = arc_value own.areas } in
    let old = is_passable c.args.changed.now.before.now in
    let changed = c.requires.before.1 in
    let were = subst (λ (t : Tables). AreTables old extent t) (sym c.self.view_is) c.requires.before.0 in (
      passes,
      sides_here old passes c.size-size.result extent c.args.changed.now.class c.args.changed.now.bits.now before c.size-size.ensures were changed c.in_ok-labels.labels c.in_ok-east.east c.in_ok-north.north c.in_ok-labels.ensures.labels c.as_slice.result.now c.in_ok-kept.kept.items c.as_slice.ensures.value c.in_ok-kept.ensures c.in_ok-east.ensures.edges c.in_ok-north.ensures.edges,
    )

pub returns-clause-tables : goal.returns-clause-tables
returns-clause-tables g c =
    let passes = is_passable c.args.plane.now in
    let extent = c.args.plane.now.size in
    let own = c.self.inside in
    let before : Tables = record { labels = own.labels; east = own.east; north = own.north; areas = arc_value own.areas } in
    let old = is_passable c.args.changed.now.before.now in
    let changed = c.requires.before.1 in
    let were = subst (λ (t : Tables). AreTables old extent t) (sym c.self.view_is) c.requires.before.0 in
    IfOk-weaker c.joined.result _ _
    (λ tables made.
    subst (λ (s : Size). AreTables passes s tables) c.size-size.ensures
    (made passes (sides_here old passes c.size-size.result extent c.args.changed.now.class c.args.changed.now.bits.now before c.size-size.ensures were changed c.in_ok-labels.labels c.in_ok-east.east c.in_ok-north.north c.in_ok-labels.ensures.labels c.as_slice.result.now c.in_ok-kept.kept.items c.as_slice.ensures.value c.in_ok-kept.ensures c.in_ok-east.ensures.edges c.in_ok-north.ensures.edges)))
    c.joined.ensures

pub kept_parts-requires-clause-were : goal.kept_parts-requires-clause-were
kept_parts-requires-clause-were g c =
    subst (λ (all : List Labelling). AreAllLabels (is_passable c.args.changed.now.before.now) c.args.plane.now.size all)
    (sym (ap (λ (t : Tables). t.labels) c.self.view_is)) c.requires.before.0.labels_are
