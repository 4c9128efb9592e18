use Rattle.std.proofs.Common.{◌≡◌, ◌+◌, ◌/◌, ◌%◌, ◌<◌, get_or, ap, ◌∙◌, arith}
use Rattle.std.specs.Int.{bit_at}
use Rattle.nav_types.specs.Cells.{cell_at}
use Rattle.class_planes.specs.Planes.{PlaneCells}
use Rattle.lane_rows.specs.Rows.{one_if}
use Rattle.class_planes.specs.inner.Lines.{RowTable, free_cell}
use Rattle.class_planes.specs.inner.StopLines.{map_lines}
use Rattle.class_planes.proofs.PlaneLemmas.{line_free, free_passable}
use Rattle.class_planes.proofs.class_plane.ClassPlane.row_words.Goals as goal

pub returns-clause-bits : goal.returns-clause-bits
returns-clause-bits c i =
    let table : RowTable = record { size = c.self.inside.size; rows = map_lines c.self.inside.rows } in
    let side : c.self.inside.size.h ≡ c.args.self.now.size.h = ap (λ (p : PlaneCells). p.size.h) c.self.view_is in
    let below : c.args.j / 32 < c.self.inside.size.h / 32 + 1 = omega (arith, c.requires.row) in
    ap (λ xs. bit_at (get_or xs (i / 64) 0) (i % 64)) c.line.ensures
    ∙ line_free (λ j i. free_cell table (cell_at i j)) (c.self.inside.size.h / 32 + 1) (c.self.inside.size.w / 64 + 1)
    c.args.j (map_lines c.self.inside.rows) c.self.invariant.row_track.lines below i
    ∙ ap one_if (free_passable table c.args.self.now c.self.view_is (cell_at i c.args.j))
