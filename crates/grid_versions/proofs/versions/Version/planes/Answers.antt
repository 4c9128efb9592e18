use Rattle.std.proofs.Common.{◌<◌, ◌∙◌, length, sym, subst, arith}
use Rattle.std.specs.Arc.{arc_value}
use Rattle.class_planes.specs.Planes.{AreOf}
use Rattle.class_planes.proofs.PlaneLemmas.{are_of, each_there}
use Rattle.grid_versions.specs.Passing.{passable_at}
use Rattle.grid_versions.specs.Versions.{MapState, passes_of}
use Rattle.grid_versions.proofs.versions.Version.planes.Goals as goal

pub returns-clause-of_version : goal.returns-clause-of_version
returns-clause-of_version c =
    let map = arc_value c.parts.inside.map in
    let planes = c.parts.inside.layers.planes in
    subst (λ (s : MapState). AreOf s.map.size (passes_of s) planes) (c.parts.view_is ∙ c.kept-parts.ensures)
    (are_of map.size (passable_at map (arc_value c.parts.inside.shapes)) 65535 (length map.classes) planes c.parts.invariant.planes_are)

pub returns-clause-each : goal.returns-clause-each
returns-clause-each c class below =
    let map = arc_value c.parts.inside.map in
    let few = c.parts.invariant.few in
    let each = c.parts.invariant.tables_are.each in
    each_there map.size (passable_at map (arc_value c.parts.inside.shapes)) (length map.classes) c.parts.inside.layers.planes
    c.parts.invariant.planes_are (omega arith) class
    (subst (λ (s : MapState). class < length s.map.classes) (sym (c.parts.view_is ∙ c.kept-parts.ensures)) below)
