use Rattle.std.proofs.Common.{◌≡◌, List, ap, sym, ◌∙◌, subst, arith}
use Rattle.std.specs.Prelude.{All}
use Rattle.std.proofs.lemmas.Bool.{eqb-true}
use Rattle.nav_types.specs.declared.cells.Rect.{Rect}
use Rattle.nav_types.specs.Cells.{IsRectInside}
use Rattle.class_planes.specs.Planes.{PlaneCells, IsPlaneOf, IsOutside, is_passable}
use Rattle.class_planes.proofs.plane_sets.updated_plane.Goals as goal

pub returns-then-is_empty : goal.returns-then-is_empty
returns-then-is_empty g c =
    let rects = c.in_ok-rects.rects.items in
    let none : c.in_ok-rects.rects.len ≡ 0 =
    eqb-true c.in_ok-rects.rects.len 0 (sym c.is_empty.ensures ∙ c.if-is_empty.true) in
    let before = c.requires.before in
    subst (IsPlaneOf (g.V.View.extent c.args.view.now) (g.V.View.passes c.args.view.now c.args.class))
    (sym c.in_ok-try_clone.ensures) (record {
      extent = before.extent;
      cells = λ p cell. before.same cell (c.in_ok-rects.ensures.kept cell (λ k d below. absurd (omega (arith, none)))) p;
    })

pub renewed-requires-clause-inside : goal.renewed-requires-clause-inside
renewed-requires-clause-inside g c =
    let extent = g.V.View.extent c.args.view.now in
    subst (λ (rs : List Rect). All (IsRectInside extent) rs) (sym c.deref-2.ensures.value)
    (c.in_ok-rects.ensures.inside extent c.requires.inside)

pub renewed-requires-clause-same : goal.renewed-requires-clause-same
renewed-requires-clause-same g c cell out =
    ap (λ (p : PlaneCells). is_passable p cell) c.deref.ensures
    ∙ c.requires.before.same cell (c.in_ok-rects.ensures.kept cell
    (subst (λ (rs : List Rect). IsOutside rs cell) c.deref-2.ensures.value out))

pub renewed-requires-clause-unread : goal.renewed-requires-clause-unread
renewed-requires-clause-unread g c cell out =
    ap (λ (p : PlaneCells). is_passable p cell) c.deref.ensures
    ∙ c.requires.before.same cell (c.requires.unread cell out)
