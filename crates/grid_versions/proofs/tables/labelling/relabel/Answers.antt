use Rattle.std.proofs.Common.{ℕ, Bool, false, List, ◌+◌, ◌≡◌, ◌<◌, ◌≤◌, ◌∙◌, length, map, refl, ap, arith, Some}
use Rattle.std.specs.Prelude.{slice_get}
use Rattle.std.proofs.lemmas.Bool.{and_parts}
use Rattle.std.proofs.lemmas.List.{length-map, length-set}
use Rattle.std.proofs.lemmas.Option.{slice_get_within}
use Rattle.nav_types.specs.declared.cells.Cell.{Cell}
use Rattle.nav_types.specs.declared.cells.Chunk.{Chunk}
use Rattle.nav_types.specs.declared.cells.Size.{Size}
use Rattle.lane_rows.specs.Rows.{has_class}
use Rattle.chunk_regions.specs.Labelling.{Labelling, AreLabels}
use Rattle.class_planes.specs.Planes.{is_passable}
use Rattle.grid_versions.specs.Chunks.{chunk_count}
use Rattle.grid_versions.specs.inner.ChunkLists.{chunk_numbered}
use Rattle.grid_versions.specs.inner.Changing.{AreChanges}
use Rattle.grid_versions.proofs.ChangeLemmas.{labels_stay, marks_more, marks_most, unmarked_agrees}
use Rattle.grid_versions.proofs.PassedLemmas.{marks_grow, remade_past}
use Rattle.grid_versions.proofs.RemakeLemmas.{AreRemade, remade_more, all_remade}
use Rattle.grid_versions.proofs.tables.labelling.relabel.Goals as goal

-- a place below the number of chunks has a bit
bit_below : (class : ℕ) (bits : List ℕ) (size extent : Size) (count place : ℕ) → count ≡ chunk_count size → size ≡ extent
    → length (map (has_class class) bits) ≡ chunk_count extent → place < count → place < length bits
bit_below class bits size extent count place many same each low =
    let equal : chunk_count size ≡ chunk_count extent = ap (λ (s : Size). chunk_count s) same in
    omega (arith, length-map bits (has_class class))

-- labels of chunks that are not marked are passed over
labels_past : (old now : Cell → Bool) (size : Size) (class : ℕ) (bits : List ℕ) (from to : ℕ) (labels : List Labelling)
    → length labels ≡ chunk_count size → AreChanges old now size class bits
    → ((k : ℕ) → from ≤ k → k < to → k < length bits → slice_get (map (has_class class) bits) k ≡ Some false) → from ≤ to
    → AreRemade (λ (k : ℕ) (one : Labelling). AreLabels now size (chunk_numbered size k) one)
    (λ (k : ℕ) (one : Labelling). AreLabels old size (chunk_numbered size k) one) from labels
    → AreRemade (λ (k : ℕ) (one : Labelling). AreLabels now size (chunk_numbered size k) one)
    (λ (k : ℕ) (one : Labelling). AreLabels old size (chunk_numbered size k) one) to labels
labels_past old now size class bits from to labels long changes none order so_far =
    let each = changes.marks.each in
    remade_past (λ (k : ℕ) (one : Labelling). AreLabels now size (chunk_numbered size k) one)
    (λ (k : ℕ) (one : Labelling). AreLabels old size (chunk_numbered size k) one) from to labels
    (λ k item low high at was.
    let inside : k < length bits = omega (arith, slice_get_within labels k item at, long, each, length-map bits (has_class class)) in
    labels_stay old now size (chunk_numbered size k) item
    (unmarked_agrees old now size class bits k false changes (none k low high inside) refl) was)
    order so_far

pub places-init : goal.places-init
places-init g c = record {
  each = c.requires.before.0.each;
  remade = λ old were changes.
      labels_past old (is_passable c.args.plane.now) c.args.plane.now.size c.args.changed.now.class
      c.args.changed.now.bits.now 0 c.next_marked-place.result c.args.labels.now were.each changes c.next_marked-place.ensures.none
      (omega arith)
      (record { done = λ k item less at. absurd (omega arith); left = λ k item from at. were.are k item at });
  counts = λ stay. refl;
  ticked = omega arith;
}

pub relabel_at-requires-clause-within : goal.relabel_at-requires-clause-within
relabel_at-requires-clause-within g c =
    let equal : c.count-count.result ≡ chunk_count c.args.plane.now.size = c.count-count.ensures.value ∙ ap (λ (s : Size). chunk_count s) c.size.ensures in
    let some = c.places-test.true in
    omega (arith, some)

pub relabel_at-requires-clause-before : goal.relabel_at-requires-clause-before
relabel_at-requires-clause-before g c =
    let old = is_passable c.args.changed.now.before.now in (
      c.requires.before.1,
      λ item at. (c.places.invariant.remade old c.requires.before.0 c.requires.before.1).left c.places.place item (omega arith) at,
    )

pub returns-in_err-stays-clause-most : goal.returns-in_err-stays-clause-most
returns-in_err-stays-clause-most g c =
    let bits = c.args.changed.now.bits.now in
    let place = c.places.place in
    let low = bit_below c.args.changed.now.class bits c.size.result c.args.plane.now.size c.count-count.result place c.count-count.ensures.value c.size.ensures
    c.requires.before.1.marks.each c.places-test.true in
    let now = marks_more c.args.changed.now.class bits place c.places.ticks c.relabel_at.new.ticks c.args.ticks.now low c.relabel_at.ensures.most c.places.invariant.ticked in
    omega (arith, now, marks_most c.args.changed.now.class bits (place + 1))

pub places-preserved : goal.places-preserved
places-preserved g c =
    let passes = is_passable c.args.plane.now in
    let size = c.args.plane.now.size in
    let bits = c.args.changed.now.bits.now in
    let class = c.args.changed.now.class in
    let place = c.places.place in
    let here = c.places.invariant in
    let labels = c.places.labels in
    let after = c.relabel_at.new.labels in
    let made = c.in_ok-stays.ensures.labels in
    let each = here.each in
    let next = c.next_marked-place-in-places.result in
    let equal : c.count-count.result ≡ chunk_count size = c.count-count.ensures.value ∙ ap (λ (s : Size). chunk_count s) c.size.ensures in
    let some = c.places-test.true in
    let within : place < length labels = omega (arith, some) in
    let low = bit_below class bits c.size.result size c.count-count.result place c.count-count.ensures.value c.size.ensures
    c.requires.before.1.marks.each some in
    let long : length after ≡ chunk_count size = ap (λ (all : List Labelling). length all) made.set ∙ length-set labels place made.item ∙ each in
    let order : place + 1 ≤ next = c.next_marked-place-in-places.ensures.from in
    let ticked = marks_more class bits place c.places.ticks c.relabel_at.new.ticks c.args.ticks.now low c.relabel_at.ensures.most here.ticked in
    record {
      each = long;
      remade = λ old were changes.
          labels_past old passes size class bits (place + 1) next after long changes c.next_marked-place-in-places.ensures.none order
          (remade_more (λ (k : ℕ) (one : Labelling). AreLabels passes size (chunk_numbered size k) one)
          (λ (k : ℕ) (one : Labelling). AreLabels old size (chunk_numbered size k) one) place labels after within (here.remade old were changes) made);
      counts = λ both.
          let parts = and_parts c.places.stay c.in_ok-stays.stays both in
          c.in_ok-stays.ensures.count parts.1 ∙ here.counts parts.0;
      ticked = omega (arith, ticked, marks_grow class bits (place + 1) next order);
    }

pub returns-clause-labels : goal.returns-clause-labels
returns-clause-labels g c =
    let passes = is_passable c.args.plane.now in
    let size = c.args.plane.now.size in
    let old = is_passable c.args.changed.now.before.now in
    let here = c.places.invariant in
    let none = c.places-test.false in
    let equal : c.count-count.result ≡ chunk_count size = c.count-count.ensures.value ∙ ap (λ (s : Size). chunk_count s) c.size.ensures in
    all_remade size (chunk_count size) c.places.place (λ (chunk : Chunk) (one : Labelling). AreLabels passes size chunk one)
    (λ (k : ℕ) (one : Labelling). AreLabels old size (chunk_numbered size k) one) c.places.labels here.each (omega (arith, none))
    (here.remade old c.requires.before.0 c.requires.before.1)

pub returns-clause-counts : goal.returns-clause-counts
returns-clause-counts g c = c.places.invariant.counts

pub returns-clause-most : goal.returns-clause-most
returns-clause-most g c = omega (arith, c.places.invariant.ticked, marks_most c.args.changed.now.class c.args.changed.now.bits.now c.places.place)
