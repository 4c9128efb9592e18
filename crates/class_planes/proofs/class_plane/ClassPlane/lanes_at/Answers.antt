use Rattle.std.proofs.Common.{ℕ, ◌<◌, ◌+◌, ◌/◌, length, ap, ap₂, sym, ◌∙◌, subst, arith}
use Rattle.nav_types.specs.Lines.{cell_on, line_on, side_along}
use Rattle.class_planes.specs.Planes.{is_passable}
use Rattle.class_planes.specs.inner.Runs.{AreLanesOf, LaneWords}
use Rattle.class_planes.specs.inner.StopLines.{AreMapLines, lanes_of, map_lines}
use Rattle.class_planes.specs.inner.Tracks.{line_count}
use Rattle.class_planes.proofs.PlaneLemmas.{only_inside}
use Rattle.class_planes.proofs.StopLineLemmas.{axis_lanes, axis_lines, on_line}
use Rattle.class_planes.proofs.TurnLemmas.{line_long}
use Rattle.class_planes.proofs.class_plane.ClassPlane.lanes_at.Goals as goal

pub lanes_at-requires : goal.lanes_at-requires
lanes_at-requires c =
    let axis = c.args.axis in
    let plane = c.args.self.now in
    let line : line_on axis c.args.cell < line_count axis plane.size =
    (on_line axis plane.size c.args.cell (only_inside plane c.args.cell c.requires)).0 in
    record {
      lines = subst (λ (n : ℕ). AreMapLines n (map_lines c.line_set.result.now)) (sym c.line_count.ensures)
          (axis_lines axis plane.size (λ n k. is_passable plane (cell_on axis n k)) (map_lines c.line_set.result.now)
          c.line_set.ensures.lines);
      line = omega (arith, line, c.line_count.ensures, c.line_on.ensures);
    }

pub returns-clause-words : goal.returns-clause-words
returns-clause-words c =
    let axis = c.args.axis in
    let plane = c.args.self.now in
    let line : line_on axis c.args.cell < line_count axis plane.size =
    (on_line axis plane.size c.args.cell (only_inside plane c.args.cell c.requires)).0 in
    ap (λ (lanes : LaneWords). length lanes.mid) c.lanes_at.ensures
    ∙ line_long (λ n k. is_passable plane (cell_on axis n k)) (line_count axis plane.size / 32 + 1)
    (side_along axis plane.size / 64 + 1) c.line_on.result (map_lines c.line_set.result.now) c.line_set.ensures.lines
    (omega (arith, line, c.line_on.ensures))

pub returns-clause-bits : goal.returns-clause-bits
returns-clause-bits c =
    let axis = c.args.axis in
    let plane = c.args.self.now in
    let line : line_on axis c.args.cell < line_count axis plane.size =
    (on_line axis plane.size c.args.cell (only_inside plane c.args.cell c.requires)).0 in
    subst (AreLanesOf (λ n k. is_passable plane (cell_on axis n k)) (line_on axis c.args.cell))
    (sym (c.lanes_at.ensures ∙ ap₂ (lanes_of (map_lines c.line_set.result.now)) c.line_count.ensures c.line_on.ensures))
    (axis_lanes axis plane c.line_set.result.now (line_on axis c.args.cell) c.line_set.ensures line)
