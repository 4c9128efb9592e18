use Rattle.std.proofs.Common.{ℕ, ◌≡◌, ◌∙◌, ◌+◌, ◌≤◌, length, ap, sym, subst}
use Rattle.std.specs.Arc.{arc_value}
use Rattle.nav_types.specs.Regions.{HasRelabelled}
use Rattle.obstruction_store.specs.Standing.{Standing, AllFit}
use Rattle.posts.specs.Maps.{Map}
use Rattle.grid_versions.specs.Versions.{MapState, map_state, passes_of}
use Rattle.grid_versions.specs.inner.Parts.{AreParts}
use Rattle.grid_versions.specs.inner.Reaching.{CoverChanges, NameChanges}
use Rattle.grid_versions.proofs.versions.Version.updated.Goals as goal

-- the map and the obstructions that were read are those of the version
read_here : (state : MapState) (map spec : Map) (old was : Standing) → map_state map old ≡ state → spec ≡ map → was ≡ old
    → map_state spec was ≡ state
read_here state map spec old was state_is map_is old_is =
    ap (λ (m : Map). map_state m was) map_is ∙ ap (λ (s : Standing). map_state map s) old_is ∙ state_is

most_here : (read state : MapState) (now new : Standing) (start end : ℕ) → read ≡ state → now ≡ new
    → ((count : ℕ) → HasRelabelled (length read.map.classes) (passes_of read) (passes_of (map_state read.map now)) count → end ≤ start + count)
    → (count : ℕ) → HasRelabelled (length state.map.classes) (passes_of state) (passes_of (map_state state.map new)) count → end ≤ start + count
most_here read state now new start end same now_is most =
    subst (λ (s : MapState). (count : ℕ) → HasRelabelled (length s.map.classes) (passes_of s) (passes_of (map_state s.map new)) count
    → end ≤ start + count) same
    (subst (λ (n : Standing). (count : ℕ) → HasRelabelled (length read.map.classes) (passes_of read) (passes_of (map_state read.map n)) count
    → end ≤ start + count) now_is most)

pub updated-requires-clause-parts : goal.updated-requires-clause-parts
updated-requires-clause-parts g c =
    let own = c.parts.inside.layers in
    subst (λ (m : Map). AreParts m c.deref-before.result.now own.cell_layer.base own.cell_layer.reachers own.cell_layer.cells own.planes own.tables)
    (sym c.deref-map.ensures)
    (subst (λ (s : Standing). AreParts (arc_value c.parts.inside.map) s own.cell_layer.base own.cell_layer.reachers own.cell_layer.cells own.planes own.tables)
    (sym c.deref-before.ensures) c.parts.invariant)

pub updated-requires-clause-fit : goal.updated-requires-clause-fit
updated-requires-clause-fit g c =
    let same = read_here c.args.self.now (arc_value c.parts.inside.map) c.deref-map.result.now (arc_value c.parts.inside.shapes)
    c.deref-before.result.now (c.parts.view_is ∙ c.kept-parts.ensures) c.deref-map.ensures c.deref-before.ensures in
    let now_is : c.deref-now.result.now ≡ c.args.shapes = c.deref-now.ensures ∙ c.in_ok-standing.ensures.ok in
    subst (λ (s : Standing). AllFit c.deref-map.result.now.size s) (sym now_is)
    (subst (λ (s : MapState). AllFit s.map.size c.args.shapes) (sym same) c.requires.fit)

pub updated-requires-clause-sized : goal.updated-requires-clause-sized
updated-requires-clause-sized g c =
    let same = read_here c.args.self.now (arc_value c.parts.inside.map) c.deref-map.result.now (arc_value c.parts.inside.shapes)
    c.deref-before.result.now (c.parts.view_is ∙ c.kept-parts.ensures) c.deref-map.ensures c.deref-before.ensures in
    c.requires.sized ∙ sym (ap (λ (s : MapState). s.map.size) same)

pub updated-requires-clause-covers : goal.updated-requires-clause-covers
updated-requires-clause-covers g c =
    let same = read_here c.args.self.now (arc_value c.parts.inside.map) c.deref-map.result.now (arc_value c.parts.inside.shapes)
    c.deref-before.result.now (c.parts.view_is ∙ c.kept-parts.ensures) c.deref-map.ensures c.deref-before.ensures in
    let now_is : c.deref-now.result.now ≡ c.args.shapes = c.deref-now.ensures ∙ c.in_ok-standing.ensures.ok in
    subst (λ (s : Standing). CoverChanges c.deref-map.result.now c.deref-before.result.now s c.args.changes.now.dirty.now.rects) (sym now_is)
    (subst (λ (s : MapState). CoverChanges s.map s.standing c.args.shapes c.args.changes.now.dirty.now.rects) (sym same) c.requires.covers)

pub updated-requires-clause-names : goal.updated-requires-clause-names
updated-requires-clause-names g c =
    let same = read_here c.args.self.now (arc_value c.parts.inside.map) c.deref-map.result.now (arc_value c.parts.inside.shapes)
    c.deref-before.result.now (c.parts.view_is ∙ c.kept-parts.ensures) c.deref-map.ensures c.deref-before.ensures in
    let now_is : c.deref-now.result.now ≡ c.args.shapes = c.deref-now.ensures ∙ c.in_ok-standing.ensures.ok in
    subst (λ (s : Standing). NameChanges c.deref-map.result.now c.deref-before.result.now s c.args.changes.now.dirty.now.rects c.args.changes.now.ids.now) (sym now_is)
    (subst (λ (s : MapState). NameChanges s.map s.standing c.args.shapes c.args.changes.now.dirty.now.rects c.args.changes.now.ids.now) (sym same) c.requires.names)

pub returns-in_err-layers-clause-most : goal.returns-in_err-layers-clause-most
returns-in_err-layers-clause-most g c =
    let same = read_here c.args.self.now (arc_value c.parts.inside.map) c.deref-map.result.now (arc_value c.parts.inside.shapes)
    c.deref-before.result.now (c.parts.view_is ∙ c.kept-parts.ensures) c.deref-map.ensures c.deref-before.ensures in
    let now_is : c.deref-now.result.now ≡ c.args.shapes = c.deref-now.ensures ∙ c.in_ok-standing.ensures.ok in
    most_here (map_state c.deref-map.result.now c.deref-before.result.now) c.args.self.now c.deref-now.result.now c.args.shapes
    c.args.ticks.now c.updated.new.ticks same now_is c.updated.ensures.most

pub returns-in_err-new-clause-most : goal.returns-in_err-new-clause-most
returns-in_err-new-clause-most g c =
    let same = read_here c.args.self.now (arc_value c.parts.inside.map) c.deref-map.result.now (arc_value c.parts.inside.shapes)
    c.deref-before.result.now (c.parts.view_is ∙ c.kept-parts.ensures) c.deref-map.ensures c.deref-before.ensures in
    let now_is : c.deref-now.result.now ≡ c.args.shapes = c.deref-now.ensures ∙ c.in_ok-standing.ensures.ok in
    most_here (map_state c.deref-map.result.now c.deref-before.result.now) c.args.self.now c.deref-now.result.now c.args.shapes
    c.args.ticks.now c.updated.new.ticks same now_is c.updated.ensures.most

pub returns-in_err-next_guides-clause-most : goal.returns-in_err-next_guides-clause-most
returns-in_err-next_guides-clause-most g c =
    let same = read_here c.args.self.now (arc_value c.parts.inside.map) c.deref-map.result.now (arc_value c.parts.inside.shapes)
    c.deref-before.result.now (c.parts.view_is ∙ c.kept-parts.ensures) c.deref-map.ensures c.deref-before.ensures in
    let now_is : c.deref-now.result.now ≡ c.args.shapes = c.deref-now.ensures ∙ c.in_ok-standing.ensures.ok in
    most_here (map_state c.deref-map.result.now c.deref-before.result.now) c.args.self.now c.deref-now.result.now c.args.shapes
    c.args.ticks.now c.updated.new.ticks same now_is c.updated.ensures.most

pub returns-clause-most : goal.returns-clause-most
returns-clause-most g c =
    let same = read_here c.args.self.now (arc_value c.parts.inside.map) c.deref-map.result.now (arc_value c.parts.inside.shapes)
    c.deref-before.result.now (c.parts.view_is ∙ c.kept-parts.ensures) c.deref-map.ensures c.deref-before.ensures in
    let now_is : c.deref-now.result.now ≡ c.args.shapes = c.deref-now.ensures ∙ c.in_ok-standing.ensures.ok in
    most_here (map_state c.deref-map.result.now c.deref-before.result.now) c.args.self.now c.deref-now.result.now c.args.shapes
    c.args.ticks.now c.updated.new.ticks same now_is c.updated.ensures.most

pub invariant_of-next : goal.invariant_of-next
invariant_of-next g c =
    let next = c.in_ok-layers.layers in
    let cell_layer = next.cell_layer in
    subst (λ (m : Map). AreParts m (arc_value c.in_ok-standing.standing) cell_layer.base cell_layer.reachers cell_layer.cells next.planes next.tables)
    (c.deref-map.ensures ∙ sym c.in_ok-shared.ensures)
    (subst (λ (s : Standing). AreParts c.deref-map.result.now s cell_layer.base cell_layer.reachers cell_layer.cells next.planes next.tables)
    c.deref-now.ensures c.in_ok-layers.ensures.parts)

pub returns-clause-relabelled : goal.returns-clause-relabelled
returns-clause-relabelled g c =
    let same = read_here c.args.self.now (arc_value c.parts.inside.map) c.deref-map.result.now (arc_value c.parts.inside.shapes)
    c.deref-before.result.now (c.parts.view_is ∙ c.kept-parts.ensures) c.deref-map.ensures c.deref-before.ensures in
    let now_is : c.deref-now.result.now ≡ c.args.shapes = c.deref-now.ensures ∙ c.in_ok-standing.ensures.ok in
    subst (λ (s : MapState). HasRelabelled (length s.map.classes) (passes_of s) (passes_of (map_state s.map c.args.shapes)) c.in_ok-layers.relabelled)
    same
    (subst (λ (n : Standing). HasRelabelled (length c.deref-map.result.now.classes) (passes_of (map_state c.deref-map.result.now c.deref-before.result.now))
    (passes_of (map_state c.deref-map.result.now n)) c.in_ok-layers.relabelled) now_is c.in_ok-layers.ensures.relabelled)
