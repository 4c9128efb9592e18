use Rattle.std.proofs.Common.{ap, sym, ◌∙◌, subst}
use Rattle.nav_types.specs.declared.cells.Size.{Size}
use Rattle.class_planes.specs.Planes.{is_passable}
use Rattle.class_planes.specs.inner.Lines.{AreRows, plane_of}
use Rattle.class_planes.proofs.PlaneLemmas.{are_rows, plane_same}
use Rattle.class_planes.proofs.class_plane.ClassPlane.build.Goals as goal

pub of_rows-requires : goal.of_rows-requires
of_rows-requires g c =
    let view = c.args.view.now in
    let class = c.args.class in
    subst (λ (size : Size). AreRows (record { size = size; rows = c.in_ok-rows.rows })) (sym c.size.ensures)
    (are_rows (g.V.View.extent view) c.in_ok-rows.rows (g.V.View.passes view class) (g.met.V.View.within view class)
    c.in_ok-rows.ensures)

pub returns-clause-passes : goal.returns-clause-passes
returns-clause-passes g c =
    let view = c.args.view.now in
    let class = c.args.class in
    ap is_passable c.in_ok-plane.ensures
    ∙ ap (λ (size : Size). is_passable (plane_of (record { size = size; rows = c.in_ok-rows.rows }))) c.size.ensures
    ∙ plane_same (g.V.View.extent view) c.in_ok-rows.rows (g.V.View.passes view class) (g.met.V.View.within view class)
    c.in_ok-rows.ensures
