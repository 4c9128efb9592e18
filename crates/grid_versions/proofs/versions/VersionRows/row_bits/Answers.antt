use Rattle.std.proofs.Common.{◌≡◌, ◌<◌, ◌≤◌, ◌+◌, ◌∙◌, length, ap, sym, subst}
use Rattle.std.specs.Arc.{arc_value}
use Rattle.nav_types.specs.Rows.{AreRowBits}
use Rattle.obstruction_store.specs.Standing.{Standing}
use Rattle.posts.specs.Maps.{Map}
use Rattle.grid_versions.specs.Versions.{MapState, map_state, passes_of}
use Rattle.grid_versions.specs.inner.Painting.{ArePaintedChunks}
use Rattle.grid_versions.proofs.versions.VersionRows.row_bits.Goals as goal

-- the state that is read part by part is the state
same_state : (state : MapState) (map kept : Map) (standing was : Standing) → map_state kept was ≡ state → map ≡ state.map
    → standing ≡ state.standing → map_state map standing ≡ state
same_state state map kept standing was is map_is standing_is =
    ap (λ (m : Map). map_state m standing) map_is ∙ ap (λ (s : Standing). map_state state.map s) standing_is
    ∙ sym (ap (λ (s : MapState). map_state s.map s.standing) is) ∙ is

pub new-painted-requires : goal.new-painted-requires
new-painted-requires c =
    let cells = c.parts.inside.layers.cell_layer.cells in
    let is = c.parts.view_is ∙ c.kept-parts.ensures in
    let read = same_state c.args.self.now c.map.result.now (arc_value c.parts.inside.map) c.shapes.result.now
    (arc_value c.parts.inside.shapes) is c.map.ensures c.shapes.ensures.standing in
    subst (λ (s : MapState). ArePaintedChunks s.map s.standing cells) (is ∙ sym read) c.parts.invariant.cells_are

pub row_bits-requires-clause-row : goal.row_bits-requires-clause-row
row_bits-requires-clause-row c =
    let read = same_state c.args.self.now c.map.result.now (arc_value c.parts.inside.map) c.shapes.result.now
    (arc_value c.parts.inside.shapes) (c.parts.view_is ∙ c.kept-parts.ensures) c.map.ensures c.shapes.ensures.standing in
    subst (λ (s : MapState). c.args.j < s.map.size.h) (sym (c.new-painted.ensures ∙ read)) c.requires.row

pub row_bits-requires-clause-within : goal.row_bits-requires-clause-within
row_bits-requires-clause-within c =
    let read = same_state c.args.self.now c.map.result.now (arc_value c.parts.inside.map) c.shapes.result.now
    (arc_value c.parts.inside.shapes) (c.parts.view_is ∙ c.kept-parts.ensures) c.map.ensures c.shapes.ensures.standing in
    subst (λ (s : MapState). c.args.from + length c.args.out.now ≤ s.map.size.w) (sym (c.new-painted.ensures ∙ read))
    c.requires.within

pub returns : goal.returns
returns c =
    let read = same_state c.args.self.now c.map.result.now (arc_value c.parts.inside.map) c.shapes.result.now
    (arc_value c.parts.inside.shapes) (c.parts.view_is ∙ c.kept-parts.ensures) c.map.ensures c.shapes.ensures.standing in
    subst (λ (s : MapState). AreRowBits (length s.map.classes) (passes_of s) c.args.j c.args.from (length c.args.out.now)
    c.row_bits.new.out)
    (c.new-painted.ensures ∙ read) c.row_bits.ensures
