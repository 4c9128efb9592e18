use Rattle.std.proofs.Common.{ℕ, List, ◌≡◌, ◌∙◌, ◌⊎◌, Option, length, get_or, ap, sym, subst, arith}
use Rattle.std.specs.Prelude.{IsTrue, IsFalse}
use Rattle.std.proofs.lemmas.Result.{IfOk-weaker}
use Rattle.nav_types.specs.declared.cells.Cell.{Cell}
use Rattle.nav_types.specs.declared.cells.Rect.{Rect}
use Rattle.nav_types.specs.declared.cells.Size.{Size}
use Rattle.nav_types.specs.Cells.{IsInside, chunk_of}
use Rattle.nav_types.specs.Numbering.{Numbering}
use Rattle.lane_rows.specs.Rows.{has_class}
use Rattle.class_planes.specs.declared.changed_parts.ChangedPart.{ChangedPart}
use Rattle.class_planes.specs.Planes.{PlaneCells, AreOfBefore, AreOfSame, IsKept}
use Rattle.class_planes.proofs.PlaneLemmas.{are_of, wanted_same}
use Rattle.obstruction_store.specs.Standing.{Standing}
use Rattle.posts.specs.Maps.{Map}
use Rattle.grid_versions.specs.Passing.{passable_at}
use Rattle.grid_versions.specs.Versions.{MapState, map_state, passes_of}
use Rattle.grid_versions.specs.Chunks.{chunk_count, chunk_place}
use Rattle.grid_versions.specs.inner.Painting.{ArePaintedChunks}
use Rattle.grid_versions.specs.inner.SameNumbers.{AreChunksOf, IsSameAt}
use Rattle.grid_versions.specs.inner.Parts.{ArePlanesBefore}
use Rattle.grid_versions.specs.inner.Reaching.{is_in_some}
use Rattle.grid_versions.proofs.PlanePartLemmas.{kept_same, extents_of}
use Rattle.grid_versions.proofs.layers.Layers.next_planes.Goals as goal

-- the planes of before are those of a map that has changed in these parts alone
planes_before : (map : Map) (new : Standing) (planes : List (Option PlaneCells)) (earlier later : List Numbering) (rects : List Rect)
    (bits : List ℕ) (parts : List ChangedPart) (size : Size) (painted : MapState) → ArePlanesBefore map new planes earlier rects bits
    → ArePaintedChunks map new later → size ≡ map.size → painted ≡ map_state map new
    → ((k : ℕ) (cell : Cell) → IsKept parts k cell → IsInside size cell → IsTrue (is_in_some rects cell)
    → IsFalse (has_class k (get_or bits (chunk_place size (chunk_of cell)) 0))
    ⊎ IsSameAt earlier later (chunk_place size (chunk_of cell)) cell)
    → AreOfBefore painted.map.size (length painted.map.classes) (passes_of painted) parts planes
planes_before map new planes earlier later rects bits parts size painted before are size_is painted_is held =
    let were = passable_at map before.earlier in
    let many = before.planes_are.many in
    subst (λ (s : MapState). AreOfBefore s.map.size (length s.map.classes) (passes_of s) parts planes) (sym painted_is) (record {
      earlier = were;
      few = omega (arith, many);
      are = are_of map.size were 65535 (length map.classes) planes before.planes_are;
      same = kept_same map before.earlier new earlier later rects bits parts before.painted are before.covered before.changes
          (subst (λ (s : Size). (k : ℕ) (cell : Cell) → IsKept parts k cell → IsInside s cell → IsTrue (is_in_some rects cell)
          → IsFalse (has_class k (get_or bits (chunk_place s (chunk_of cell)) 0))
          ⊎ IsSameAt earlier later (chunk_place s (chunk_of cell)) cell) size_is held);
    })

pub changed_parts-requires-clause-each : goal.changed_parts-requires-clause-each
changed_parts-requires-clause-each c = c.requires.each ∙ sym (ap (λ (s : Size). chunk_count s) c.size.ensures)

pub changed_parts-requires-clause-sized : goal.changed_parts-requires-clause-sized
changed_parts-requires-clause-sized c = c.requires.sized ∙ sym c.size.ensures

pub changed_parts-requires-clause-before : goal.changed_parts-requires-clause-before
changed_parts-requires-clause-before c =
    subst (λ (s : Size). AreChunksOf s c.args.self.now.cell_layer.cells) (sym c.size.ensures)
    (extents_of c.args.site.now.map.now c.requires.before.earlier c.args.self.now.cell_layer.cells c.requires.before.painted)

pub changed_parts-requires-clause-after : goal.changed_parts-requires-clause-after
changed_parts-requires-clause-after c =
    subst (λ (s : Size). AreChunksOf s c.args.cells.now) (sym c.size.ensures)
    (extents_of c.args.site.now.map.now c.args.site.now.shapes.now c.args.cells.now c.requires.cells)

pub updated-requires-clause-before : goal.updated-requires-clause-before
updated-requires-clause-before c =
    subst (λ (parts : List ChangedPart). AreOfBefore c.new-painted.result.map.size (length c.new-painted.result.map.classes)
    (passes_of c.new-painted.result) parts c.args.self.now.planes) (sym c.deref.ensures.value)
    (planes_before c.args.site.now.map.now c.args.site.now.shapes.now c.args.self.now.planes c.args.self.now.cell_layer.cells c.args.cells.now c.args.dirty.now.rects
    c.args.changed.now c.in_ok-parts.parts.items c.size.result c.new-painted.result c.requires.before c.requires.cells c.size.ensures c.new-painted.ensures c.in_ok-parts.ensures.held)

pub returns : goal.returns
returns c =
    let map = c.args.site.now.map.now in
    let new = c.args.site.now.shapes.now in
    let planes = c.args.self.now.planes in
    let before = c.requires.before in
    IfOk-weaker c.updated.result _ _
    (λ next same.
    wanted_same map.size (passable_at map before.earlier) (passable_at map new) 65535 (length map.classes) planes next before.planes_are
    (subst (λ (s : MapState). AreOfSame s.map.size (passes_of s) planes next) c.new-painted.ensures same))
    c.updated.ensures
