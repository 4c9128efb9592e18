use Rattle.std.proofs.Common.{◌<◌, ◌∙◌, length, ap, sym, subst, arith}
use Rattle.std.specs.Arc.{arc_value}
use Rattle.class_planes.proofs.PlaneLemmas.{are_of, each_there}
use Rattle.grid_versions.specs.Passing.{passable_at}
use Rattle.grid_versions.specs.Versions.{MapState, passes_of}
use Rattle.grid_versions.proofs.versions.Version.plane.Goals as goal

pub plane_of-requires : goal.plane_of-requires
plane_of-requires c =
    let map = arc_value c.parts.inside.map in
    let few = c.parts.invariant.few in
    let each = c.parts.invariant.tables_are.each in
    each_there map.size (passable_at map (arc_value c.parts.inside.shapes)) (length map.classes) c.parts.inside.layers.planes
    c.parts.invariant.planes_are (omega arith) c.args.class
    (subst (λ (s : MapState). c.args.class < length s.map.classes) (sym (c.parts.view_is ∙ c.kept-parts.ensures)) c.requires)

pub returns-clause-extent : goal.returns-clause-extent
returns-clause-extent c =
    let map = arc_value c.parts.inside.map in
    let is = are_of map.size (passable_at map (arc_value c.parts.inside.shapes)) 65535 (length map.classes) c.parts.inside.layers.planes
    c.parts.invariant.planes_are c.args.class c.plane_of.result.now c.plane_of.ensures in
    is.extent ∙ ap (λ (s : MapState). s.map.size) (c.parts.view_is ∙ c.kept-parts.ensures)

pub returns-clause-cells : goal.returns-clause-cells
returns-clause-cells c =
    let map = arc_value c.parts.inside.map in
    let is = are_of map.size (passable_at map (arc_value c.parts.inside.shapes)) 65535 (length map.classes) c.parts.inside.layers.planes
    c.parts.invariant.planes_are c.args.class c.plane_of.result.now c.plane_of.ensures in
    is.cells ∙ ap (λ (s : MapState). passes_of s c.args.class) (c.parts.view_is ∙ c.kept-parts.ensures)
