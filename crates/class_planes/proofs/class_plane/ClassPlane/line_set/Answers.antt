use Rattle.std.proofs.Common.{sym, subst}
use Rattle.nav_types.specs.declared.straights.Axis.{Axis}
use Rattle.nav_types.specs.declared.straights.Axis.TheVariants.{Row, Column}
use Rattle.nav_types.specs.Lines.{cell_on, side_along}
use Rattle.class_planes.specs.Planes.{is_passable}
use Rattle.class_planes.specs.inner.Lines.{RowTable}
use Rattle.class_planes.specs.inner.Tracks.{IsTrackOf, line_count}
use Rattle.class_planes.specs.inner.StopLines.{map_lines}
use Rattle.class_planes.proofs.StopLineLemmas.{axis_track}
use Rattle.class_planes.proofs.class_plane.ClassPlane.line_set.Goals as goal

pub returns-in-Row : goal.returns-in-Row
returns-in-Row c =
    let plane = c.args.self.now in
    let table : RowTable = record { size = c.self.inside.size; rows = map_lines c.self.inside.rows } in
    subst (λ (axis : Axis). IsTrackOf (λ n k. is_passable plane (cell_on axis n k)) (line_count axis plane.size)
    (side_along axis plane.size) c.self.inside.rows) (sym c.in-Row.is)
    (axis_track Row table plane c.self.inside.rows c.self.view_is c.self.invariant.row_track)

pub returns-in-Column : goal.returns-in-Column
returns-in-Column c =
    let plane = c.args.self.now in
    let table : RowTable = record { size = c.self.inside.size; rows = map_lines c.self.inside.rows } in
    subst (λ (axis : Axis). IsTrackOf (λ n k. is_passable plane (cell_on axis n k)) (line_count axis plane.size)
    (side_along axis plane.size) c.self.inside.columns) (sym c.in-Column.is)
    (axis_track Column table plane c.self.inside.columns c.self.view_is c.self.invariant.column_track)
