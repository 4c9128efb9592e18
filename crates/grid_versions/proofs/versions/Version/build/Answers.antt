use Rattle.std.proofs.Common.{◌≡◌, ◌∙◌, length, ap, sym, subst}
use Rattle.std.specs.Arc.{arc_value}
use Rattle.obstruction_store.specs.Standing.{Standing}
use Rattle.posts.specs.Maps.{Map}
use Rattle.grid_versions.specs.Versions.{MapState}
use Rattle.grid_versions.specs.inner.Parts.{AreParts}
use Rattle.grid_versions.proofs.GuidingLemmas.{none_guide}
use Rattle.grid_versions.proofs.versions.Version.build.Goals as goal

pub invariant_of-parts : goal.invariant_of-parts
invariant_of-parts g c =
    let made = c.in_ok-layers.layers in
    let cell_layer = made.cell_layer in
    subst (λ (m : Map). AreParts m (arc_value c.in_ok-standing.standing) cell_layer.base cell_layer.reachers cell_layer.cells made.planes made.tables)
    (sym c.in_ok-shared.ensures)
    (subst (λ (s : Standing). AreParts c.args.map.now s cell_layer.base cell_layer.reachers cell_layer.cells made.planes made.tables)
    (sym c.in_ok-standing.ensures) c.in_ok-layers.ensures.parts)

pub invariant_of-result : goal.invariant_of-result
invariant_of-result g c =
    let state = arc_value c.in_ok-new.field-0 in
    let map_is : state.map ≡ c.args.map.now =
    ap (λ (s : MapState). s.map) c.in_ok-new.ensures.ok ∙ c.in_ok-shared.ensures in
    none_guide state.map (arc_value c.in_ok-new-2.field-0) c.count.result (c.in_ok-new-2.ensures.ok ∙ c.in_ok-guides.ensures)
    (c.count.ensures.count ∙ ap length (c.classes.ensures ∙ ap (λ (m : Map). m.classes) (sym map_is)))
