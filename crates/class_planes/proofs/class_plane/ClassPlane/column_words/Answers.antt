use Rattle.std.proofs.Common.{◌≡◌, ◌+◌, ◌/◌, ◌%◌, ◌<◌, get_or, ap, ◌∙◌, arith}
use Rattle.std.specs.Int.{bit_at}
use Rattle.nav_types.specs.Cells.{cell_at}
use Rattle.class_planes.specs.Planes.{PlaneCells}
use Rattle.lane_rows.specs.Rows.{one_if}
use Rattle.class_planes.specs.inner.Lines.{RowTable, free_cell}
use Rattle.class_planes.specs.inner.StopLines.{map_lines}
use Rattle.class_planes.proofs.PlaneLemmas.{line_free, free_passable}
use Rattle.class_planes.proofs.class_plane.ClassPlane.column_words.Goals as goal

pub returns-clause-bits : goal.returns-clause-bits
returns-clause-bits c j =
    let table : RowTable = record { size = c.self.inside.size; rows = map_lines c.self.inside.rows } in
    let side : c.self.inside.size.w ≡ c.args.self.now.size.w = ap (λ (p : PlaneCells). p.size.w) c.self.view_is in
    let below : c.args.i / 32 < c.self.inside.size.w / 32 + 1 = omega (arith, c.requires.column) in
    ap (λ xs. bit_at (get_or xs (j / 64) 0) (j % 64)) c.line.ensures
    ∙ line_free (λ i j. free_cell table (cell_at i j)) (c.self.inside.size.w / 32 + 1) (c.self.inside.size.h / 64 + 1)
    c.args.i (map_lines c.self.inside.columns) c.self.invariant.column_track.lines below j
    ∙ ap one_if (free_passable table c.args.self.now c.self.view_is (cell_at c.args.i j))
