use Rattle.std.proofs.Common.{◌≡◌, ap, sym, ◌∙◌, arith}
use Rattle.class_planes.specs.Planes.{PlaneCells}
use Rattle.class_planes.specs.inner.Lines.{RowTable}
use Rattle.class_planes.specs.inner.StopLines.{map_lines}
use Rattle.class_planes.proofs.PlaneLemmas.{inside_free, free_passable}
use Rattle.class_planes.proofs.class_plane.ClassPlane.passable.Goals as goal

pub returns : goal.returns
returns c =
    let table : RowTable = record { size = c.self.inside.size; rows = map_lines c.self.inside.rows } in
    let wide : c.self.inside.size.w ≡ c.args.self.now.size.w = ap (λ (p : PlaneCells). p.size.w) c.self.view_is in
    let high : c.self.inside.size.h ≡ c.args.self.now.size.h = ap (λ (p : PlaneCells). p.size.h) c.self.view_is in
    c.is_free.ensures
    ∙ sym (inside_free table c.args.cell.i c.args.cell.j (omega (arith, c.requires.column))
    (omega (arith, c.requires.row)))
    ∙ free_passable table c.args.self.now c.self.view_is c.args.cell
