use Rattle.std.proofs.Common.{◌∙◌, subst}
use Rattle.std.specs.Arc.{arc_value}
use Rattle.grid_versions.specs.inner.Tables.{AreTables}
use Rattle.grid_versions.specs.Versions.{MapState, passes_of}
use Rattle.grid_versions.proofs.VersionLemmas.{class_table}
use Rattle.grid_versions.proofs.versions.Version.tables.Goals as goal

pub returns : goal.returns
returns c =
    let own = c.parts.inside.layers in
    let found = c.at.result.now in
    subst (λ (s : MapState). AreTables (passes_of s c.args.class) s.map.size found) (c.parts.view_is ∙ c.kept-parts.ensures)
    (class_table (arc_value c.parts.inside.map) (arc_value c.parts.inside.shapes) own.cell_layer.base own.cell_layer.reachers own.cell_layer.cells own.planes
    own.tables c.parts.invariant c.args.class c.from.result found (c.from.ensures ∙ c.number.ensures.value) c.at.ensures)
